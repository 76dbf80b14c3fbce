use Rattle.std.proofs.Common.{◌≡◌, length}
use Rattle.print_register.proofs.print_rows.Given as goal

abbrev pub invariant-loop-count : goal.invariant-loop-count
invariant-loop-count l = length l.space ≡ 1026
