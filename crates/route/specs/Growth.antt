-- Paths as they grow, entry by entry, from the empty list.
use Rattle.std.specs.Prelude.{ℕ, ◌/◌, ◌<◌, List, [], ◌∷◌, length, take, ◌≢◌, slice_index}
use Rattle.plan.specs.Layout.{Layout}
use Rattle.route.specs.Paths.{Starts, Follows, heading, last_of}

-- each entry may stand after those that come before it
abbrev pub Grown : (List ℕ → ℕ → Type 0) → List ℕ → Type 0
Grown May es = (i : ℕ) → i < length es → May (take i es) (slice_index es i)

-- no entry of `q` has the component of `e`
abbrev pub New : List ℕ → ℕ → Type 0
New q e = (k : ℕ) → k < length q → slice_index q k / 4 ≢ e / 4

-- the entry may come next after the entries, leaving aside whether its component is new
abbrev pub Next : Layout → List ℕ → ℕ → Type 0
Next l [] e = Starts l e
Next l (s ∷ q) e = Follows l (heading l (s ∷ q)) (last_of (s ∷ q)) e

-- the entry `e` may stand after the entries `q`
abbrev pub May : Layout → List ℕ → ℕ → Type 0
May l q e = Next l q e × New q e

-- the empty list, or a path
abbrev pub Begun : Layout → List ℕ → Type 0
Begun l es = Grown (May l) es
