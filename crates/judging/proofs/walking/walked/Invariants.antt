use Rattle.std.proofs.Common.{◌≡◌, ◌+◌, get_or}
use Rattle.judging.proofs.Walks.{Kept}
use Rattle.judging.proofs.walking.walked.Given as goal

abbrev pub invariant-loop-i : goal.invariant-loop-i
invariant-loop-i g l = Kept (g.P.Plan.layout l.plan) l.row (l.i + 1) l.seen × (l.last ≡ get_or l.row l.i 0)
