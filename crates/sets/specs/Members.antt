-- Which components are in a set, and how many are in two.
use Rattle.std.specs.Prelude.{ℕ, zero, suc, ◌+◌, ◌/◌, ◌%◌, ◌^◌, min, cond, ◌&&◌, List, ◌==◌, nat_lt, slice_index}
use Rattle.sets.specs.declared.set.ComponentSet.{ComponentSet}

-- bit j of n
abbrev pub bit : ℕ → ℕ → ℕ
bit n j = n / 2 ^ j % 2

abbrev pub in_words : List ℕ → ℕ → ℕ
in_words ws c = bit (slice_index ws (c / 64)) (c % 64)

-- 1 where the component is in the set, else 0
unfoldable pub has : ComponentSet → ℕ → ℕ
has s c = in_words s.words c

-- the set with one component more; only numbers below 512 are components
abbrev pub joined : ComponentSet → ℕ → ℕ → ℕ
joined s new c = cond (nat_lt new 512 && c == new) 1 (has s c)

-- the set without one component
abbrev pub left : ComponentSet → ℕ → ℕ → ℕ
left s old c = cond (c == old) 0 (has s c)

-- f 0 + .. + f (n - 1)
unfoldable pub sum_below : (ℕ → ℕ) → ℕ → ℕ
sum_below f zero = 0
sum_below f (suc n) = sum_below f n + f n

-- how many of the 512 components are in both sets
abbrev pub in_both : ComponentSet → ComponentSet → ℕ
in_both a b = sum_below (λ c. min (has a c) (has b c)) 512

-- how many components are in the set
abbrev pub size : ComponentSet → ℕ
size s = sum_below (has s) 512
