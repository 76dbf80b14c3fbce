use Rattle.signal_box.proofs.Notes.{restarted}
use Rattle.signal_box.proofs.signal_box.SignalBox.restart.Goals as goal

pub returns : goal.returns
returns g c = record {
  journal = record { plan = c.restart.ensures.plan; noted = λ j kept. restarted _ j c.args.self.now kept _ c.restart.ensures.history };
}
