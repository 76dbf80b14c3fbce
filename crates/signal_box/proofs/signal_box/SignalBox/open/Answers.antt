use Rattle.std.proofs.Common.{refl}
use Rattle.signal_box.proofs.Notes.{opened}
use Rattle.signal_box.proofs.signal_box.SignalBox.open.Goals as goal

pub returns-clause-journal : goal.returns-clause-journal
returns-clause-journal g c =
    let e = c.open.ensures in
    let told = rw c.plan.ensures at e.told in
    record { plan = refl; noted = λ j kept. opened _ j c.args.self.now kept _ _ _ told e.serial e.refused e.after }
