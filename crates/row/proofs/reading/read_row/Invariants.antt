use Rattle.std.proofs.Common.{◌≡◌, take}
use Rattle.row.specs.Row.{entries_of}
use Rattle.row.specs.View.{entries}
use Rattle.row.proofs.reading.read_row.Given as goal

abbrev pub invariant-loop-pair : goal.invariant-loop-pair
invariant-loop-pair l = entries l.list ≡ take l.pair-index (entries_of l.bytes)
