-- A place of a list that is longer by one is one of the shorter list, or the last.
use Rattle.std.proofs.Common.{◌≡◌, ℕ, ◌<◌, ◌≤◌, ◌⊎◌, List, [], ◌∷◌, ◌++◌, length, get_or, inl, inr, ⊎_elim, arith}
use Rattle.std.proofs.lemmas.List.{length_push, get_or_push, get_or_append_left}
use Rattle.std.proofs.lemmas.Bool.{cases_lt}

abbrev pub Pushed : {X : Type 0} → List X → X → X → ℕ → Type 0
Pushed xs y d i =
    ((i < length xs) × (get_or (xs ++ y ∷ []) i d ≡ get_or xs i d)) ⊎ ((length xs ≡ i) × (get_or (xs ++ y ∷ []) i d ≡ y))

pub at_place : {X : Type 0} (xs : List X) (y d : X) (i : ℕ) → i < length (xs ++ y ∷ []) → Pushed xs y d i
at_place xs y d i h =
    let n = length_push xs y in
    ⊎_elim
    (λ (k : i < length xs). inl (k, get_or_append_left xs (y ∷ []) d i k))
    (λ (k : length xs ≤ i). let e : length xs ≡ i = omega arith in inr (e, get_or_push xs y d i e))
    (cases_lt i (length xs))
