use Rattle.std.proofs.Common.{refl}
use Rattle.signal_box.proofs.Notes.{cleared}
use Rattle.signal_box.proofs.signal_box.SignalBox.clear.Goals as goal

pub returns-clause-journal : goal.returns-clause-journal
returns-clause-journal g c =
    let e = c.clear.ensures in
    let told = rw c.plan.ensures at e.told in
    record { plan = refl; noted = λ j kept. cleared _ j c.args.self.now kept _ _ _ told e.refused e.after }
