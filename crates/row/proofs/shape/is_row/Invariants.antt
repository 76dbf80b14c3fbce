use Rattle.std.proofs.Common.{◌≡◌, ◌&&◌, drop}
use Rattle.row.specs.Row.{all_ok, entries_of}
use Rattle.row.proofs.shape.is_row.Given as goal

-- what was seen and what is left decide
abbrev pub invariant-loop-pair : goal.invariant-loop-pair
invariant-loop-pair l = (l.good && all_ok (drop l.pair-index (entries_of l.bytes))) ≡ all_ok (entries_of l.bytes)
