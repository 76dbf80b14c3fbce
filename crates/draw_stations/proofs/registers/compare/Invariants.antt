use Rattle.std.proofs.Common.{◌≡◌, length}
use Rattle.draw_stations.proofs.registers.compare.Given as goal

abbrev pub invariant-loop : goal.invariant-loop
invariant-loop g l = (length l.row ≡ 1026) × (length l.other ≡ 1026)
