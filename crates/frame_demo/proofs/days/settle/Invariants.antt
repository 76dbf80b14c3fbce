use Rattle.std.proofs.Common.{vec_items, vec_len}
use Rattle.frame.specs.View.{view}
use Rattle.day.specs.Pool.{serials}
use Rattle.frame_demo.specs.Matched.{Matched}
use Rattle.frame_demo.proofs.days.settle.Given as goal

abbrev pub invariant-loop-slip : goal.invariant-loop-slip
invariant-loop-slip l = Matched (serials (vec_items l.pool)) (view l.first) (view l.second)

abbrev pub decreases-loop-slip : goal.decreases-loop-slip
decreases-loop-slip l = vec_len l.pool
