-- Numbers as two bytes, the low byte first.
use Rattle.std.specs.Prelude.{ℕ, ◌+◌, ◌*◌, ◌/◌, ◌%◌, List, [], ◌∷◌, slice_index}

-- the number that begins at place `i`; what is not there counts as 0
abbrev pub number : List ℕ → ℕ → ℕ
number s i = slice_index s i + 256 * slice_index s (i + 1)

-- the two bytes of a number below 65,536
abbrev pub word : ℕ → List ℕ
word n = n % 256 ∷ (n / 256 ∷ [])
