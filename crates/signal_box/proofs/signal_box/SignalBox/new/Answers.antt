use Rattle.signal_box.proofs.Ones.{one_answer}
use Rattle.signal_box.proofs.Safety.{safe_fresh}
use Rattle.signal_box.proofs.signal_box.SignalBox.new.Goals as goal

pub returns : goal.returns
returns g c = record {
  plan = c.new.ensures.plan;
  journal = record { book = c.new-2.ensures; handed = c.new.ensures.history; safe = safe_fresh _ };
  one = one_answer;
}
