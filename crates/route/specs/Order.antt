-- The order in which a register is read.
use Rattle.std.specs.Prelude.{◌≡◌, ℕ, ◌<◌, ◌⊎◌, List, [], ◌∷◌}

-- `a` comes before `b`: at the first place where they differ `a` has the smaller entry, or `a` ends there
abbrev pub Before : List ℕ → List ℕ → Type 0
Before [] [] = ⊥
Before [] (y ∷ ys) = Unit {0}
Before (x ∷ xs) [] = ⊥
Before (x ∷ xs) (y ∷ ys) = (x < y) ⊎ ((x ≡ y) × Before xs ys)

-- The order is strict and total.
abbrev pub StrictAndTotal : Type 0
StrictAndTotal =
    ((a : List ℕ) → Before a a → ⊥)
    × ((a b c : List ℕ) → Before a b → Before b c → Before a c)
    × ((a b : List ℕ) → (a ≡ b) ⊎ (Before a b ⊎ Before b a))
