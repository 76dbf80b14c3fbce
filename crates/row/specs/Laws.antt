-- Rows and lists of entries are the same thing written in two ways.
use Rattle.std.specs.Prelude.{◌≡◌, ℕ, ◌+◌, ◌*◌, ◌<◌, true, List, length, slice_index}
use Rattle.row.specs.Row.{is_entries, is_row, bytes_of, entries_of}

-- what is written is a row and is read back
unfoldable pub WrittenRead : Type 0
WrittenRead =
    (es : List ℕ) → is_entries es ≡ true →
    (is_row (bytes_of es) ≡ true) × (entries_of (bytes_of es) ≡ es) × (length (bytes_of es) ≡ 2 + 2 * length es)

-- what is read has the shape of entries and is written back, byte by byte
unfoldable pub ReadWritten : Type 0
ReadWritten =
    (s : List ℕ) → is_row s ≡ true → ((i : ℕ) → slice_index s i < 256) →
    (is_entries (entries_of s) ≡ true) × (bytes_of (entries_of s) ≡ s)
