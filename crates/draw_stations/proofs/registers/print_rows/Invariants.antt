use Rattle.std.proofs.Common.{◌≡◌, length}
use Rattle.draw_stations.proofs.registers.print_rows.Given as goal

abbrev pub invariant-loop-count : goal.invariant-loop-count
invariant-loop-count g l = length l.space ≡ 1026
