-- The first routes of a layout, in lexicographic order.
use Rattle.std.specs.Prelude.{◌≡◌, ℕ, ◌<◌, List, [], length, slice_index_or}
use Rattle.plan.specs.Layout.{Layout}
use Rattle.route.specs.Order.{Before}
use Rattle.route.specs.Paths.{Route}

-- one of the rows
abbrev pub Among : List ℕ → List (List ℕ) → Type 0
Among r rows = (i : ℕ) × (i < length rows) × (slice_index_or rows i [] ≡ r)

-- Every one of the rows is a route, they ascend, and every route before one of them is among them.
pub record FirstRoutes (l : Layout) (rows : List (List ℕ)) : Type 0 where
  pub routes : (i : ℕ) → i < length rows → Route l (slice_index_or rows i [])
  pub ascending : (i j : ℕ) → i < j → j < length rows → Before (slice_index_or rows i []) (slice_index_or rows j [])
  pub none_left_out : (i : ℕ) → i < length rows → (r : List ℕ) → Route l r → Before r (slice_index_or rows i []) → Among r rows

-- the route that comes next after the rows: one that is not among them, and every route before it is
pub record NextRoute (l : Layout) (rows : List (List ℕ)) (r : List ℕ) : Type 0 where
  pub route : Route l r
  pub new : Among r rows → ⊥
  pub first : (s : List ℕ) → Route l s → Before s r → Among s rows

-- no route is left
abbrev pub AllOut : Layout → List (List ℕ) → Type 0
AllOut l rows = (r : List ℕ) → Route l r → Among r rows
