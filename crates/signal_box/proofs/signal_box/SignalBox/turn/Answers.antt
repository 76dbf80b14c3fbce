use Rattle.signal_box.proofs.Notes.{turned}
use Rattle.signal_box.proofs.signal_box.SignalBox.turn.Goals as goal

pub returns-clause-journal : goal.returns-clause-journal
returns-clause-journal g c =
    let e = c.turn.ensures in
    record { plan = e.plan; noted = λ j kept. turned _ j c.args.self.now kept _ _ _ _ e.refused e.history }
