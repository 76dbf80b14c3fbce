use Rattle.search.specs.View.{path_of}
use Rattle.search.proofs.Bounds.{left}
use Rattle.search.proofs.Turns.{Keeps}
use Rattle.search.proofs.routes.next_route.Given as goal

abbrev pub invariant-loop-at : goal.invariant-loop-at
invariant-loop-at g l = Keeps (g.P.Plan.layout l.plan) (path_of l.initial.at) l.at l.from

abbrev pub decreases-loop-at : goal.decreases-loop-at
decreases-loop-at g l = left (path_of l.at) l.from
