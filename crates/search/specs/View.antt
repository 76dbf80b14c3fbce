-- What a position holds, and how it grows.
use Rattle.std.specs.Prelude.{◌≡◌, ℕ, ◌%◌, ◌<◌, Bool, true, false, List, [], ◌∷◌, ◌++◌, length, Some, None, Option, ◌≢◌, slice_index}
use Rattle.row.specs.View.{entries}
use Rattle.route.specs.Growth.{New}
use Rattle.search.specs.declared.position.Position.{Position}

-- the entries of the path that a position holds
abbrev pub path_of : Position → List ℕ
path_of p = entries p.path

-- one entry more, of a component that is new; or the entry has no place, and nothing moved
abbrev pub Pushed : Position → ℕ → Position → Bool → Type 0
Pushed p e q true = (path_of q ≡ path_of p ++ e ∷ []) × New (path_of p) e × (e < 2048)
Pushed p e q false = (q ≡ p) × (New (path_of p) e → e < 2048 → length (path_of p) < 512 → ⊥)

-- the last entries were taken off: one, and those behind it, which no other could stand in the place of; or all were
abbrev pub Retreated : List ℕ → List ℕ → Option ℕ → Type 0
Retreated p q None = (p ≡ []) × (q ≡ [])
Retreated p q (Some e) = (t : List ℕ) × (p ≡ q ++ e ∷ t) × ((i : ℕ) → i < length t → slice_index t i % 4 ≢ 1)
