use Rattle.std.proofs.Common.{refl}
use Rattle.signal_box.proofs.Notes.{released}
use Rattle.signal_box.proofs.signal_box.SignalBox.release.Goals as goal

pub returns-clause-journal : goal.returns-clause-journal
returns-clause-journal g c =
    let e = c.release.ensures in
    record { plan = refl; noted = λ j kept. released _ j c.args.self.now kept _ _ _ e.told e.kept e.after }
