use Rattle.std.proofs.Common.{◌≡◌, ℕ, ◌%◌, ◌<◌, ◌⊎◌, List, ◌++◌, length, get_or}
use Rattle.search.specs.View.{path_of}
use Rattle.search.proofs.position.Position.retreat.Given as goal

-- what was taken off so far
abbrev pub invariant-loop-e : goal.invariant-loop-e
invariant-loop-e l =
    (t : List ℕ) × (path_of l.initial.self ≡ path_of l.self ++ t)
    × ((i : ℕ) → i < length t → get_or t i 0 % 4 ≡ 1 → ⊥)
    × ((length t ≡ 0) ⊎ (0 < length (path_of l.self)))

abbrev pub decreases-loop-e : goal.decreases-loop-e
decreases-loop-e l = length (path_of l.self)
