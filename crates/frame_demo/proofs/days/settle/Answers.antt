use Rattle.std.proofs.Common.{vec_items}
use Rattle.frame.specs.View.{view}
use Rattle.frame_demo.proofs.Matches.{open_somewhere}
use Rattle.frame_demo.proofs.days.settle.Goals as goal

pub close-requires : goal.close-requires
close-requires c = open_somewhere (vec_items c.loop-slip.pool) (vec_items c.pop.new.self) c.in-Some.slip (view c.loop-slip.first) (view c.loop-slip.second) c.in-Some.ensures.items c.loop-slip.invariant
