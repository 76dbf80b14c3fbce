use Rattle.std.proofs.Common.{take}
use Rattle.judging.proofs.Gathered.{Gathers}
use Rattle.judging.proofs.shared.components.Given as goal

abbrev pub invariant-loop-e : goal.invariant-loop-e
invariant-loop-e l = Gathers l.set (take l.e-index l.all)
