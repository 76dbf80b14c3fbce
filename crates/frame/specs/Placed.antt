-- Where an open row is found.
use Rattle.std.specs.Prelude.{◌≡◌, ℕ, ◌<◌, List, length, Some, None, Option, slice_index_or}
use Rattle.std.specs.List.{remove}
use Rattle.frame.specs.Book.{OpenRow, struck}
use Rattle.frame.specs.Calls.{no_row, IsOpen}

-- the place of the row that is struck with the serial, or that no row has it
abbrev pub Placed : List OpenRow → ℕ → Option ℕ → Type 0
Placed rs s None = IsOpen rs s → ⊥
Placed rs s (Some i) = (i < length rs) × ((slice_index_or rs i no_row).serial ≡ s) × (struck s rs ≡ remove rs i)
