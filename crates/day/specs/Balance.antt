-- The pool of slips against the rows that stand open at the end.
use Rattle.std.specs.Prelude.{◌≡◌, ℕ, ◌+◌, List, map, count_by, ◌==◌}
use Rattle.frame.specs.Book.{Book}

-- how often a serial stands in a list
unfoldable pub copies : ℕ → List ℕ → ℕ
copies s ns = count_by (λ n. n == s) ns

-- the serials of the open rows
abbrev pub open_serials : Book → List ℕ
open_serials b = map (λ r. r.serial) b.opened

-- Each serial stands in the pool as often as it did before, and once more for each open row that has it: no slip is lost,
-- and none is made but for a row that stands open.
abbrev pub Balanced : List ℕ → List ℕ → Book → Type 0
Balanced p p' b = (s : ℕ) → copies s p' ≡ copies s p + copies s (open_serials b)
