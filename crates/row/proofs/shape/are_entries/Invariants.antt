use Rattle.std.proofs.Common.{◌≡◌, ◌&&◌, drop}
use Rattle.row.specs.Row.{all_ok}
use Rattle.row.proofs.shape.are_entries.Given as goal

-- what was seen and what is left decide
abbrev pub invariant-loop-e : goal.invariant-loop-e
invariant-loop-e l = (l.good && all_ok (drop l.e-index l.row)) ≡ all_ok l.row
