use Rattle.std.proofs.Common.{refl}
use Rattle.signal_box.proofs.Notes.{occupied}
use Rattle.signal_box.proofs.signal_box.SignalBox.occupy.Goals as goal

pub returns-clause-journal : goal.returns-clause-journal
returns-clause-journal g c =
    let e = c.occupy.ensures in
    let told = rw c.plan.ensures at e.told in
    record { plan = refl; noted = λ j kept. occupied _ j c.args.self.now kept _ _ _ told e.refused e.after }
