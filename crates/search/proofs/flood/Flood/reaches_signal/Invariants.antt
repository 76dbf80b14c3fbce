use Rattle.search.specs.Reach.{Settled, to_do}
use Rattle.search.proofs.flood.Flood.reaches_signal.Given as goal

abbrev pub invariant-loop-component : goal.invariant-loop-component
invariant-loop-component g l = Settled (g.P.Plan.layout l.plan) l.way l.initial.self l.self

abbrev pub decreases-loop-component : goal.decreases-loop-component
decreases-loop-component g l = to_do l.self
