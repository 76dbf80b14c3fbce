use Rattle.std.specs.Prelude.{ℕ, List, take}
use Rattle.row.specs.declared.entries.Entries.{Entries}

-- the list that the first `len` cells hold
abbrev pub entries : Entries → List ℕ
entries x = take x.len x.cells
