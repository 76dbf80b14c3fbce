-- The slips of a pool against what stands open on two frames.
use Rattle.std.specs.Prelude.{◌≡◌, ℕ, ◌+◌, List}
use Rattle.frame.specs.Book.{Book}
use Rattle.day.specs.Balance.{copies, open_serials}

-- each serial stands in the pool as often as on the two frames together
abbrev pub Matched : List ℕ → Book → Book → Type 0
Matched p a b = (s : ℕ) → copies s p ≡ copies s (open_serials a) + copies s (open_serials b)
