-- The ones of the intersection of two words, counted and summed.
use Rattle.std.proofs.Common.{◌≡◌, ℕ, zero, suc, ◌+◌, ◌*◌, ◌/◌, ◌^◌, ◌<◌, ◌≤◌, min, List, get_or, sym, refl, ap, ◌∙◌, pow-suc, arith}
use lib.Bits.{bit_and}
use lib.Count.{ones, ones_step, ones-le}
use Rattle.std.proofs.lemmas.Nat.{div-mul-add, mod-mul-add}
use Rattle.std.proofs.lemmas.Nat.Bits.{bit_at-suc, bit_at_and}
use Rattle.sets.specs.Members.{bit, in_words, sum_below}

sum_front : (f : ℕ → ℕ) (n : ℕ) → sum_below f (suc n) ≡ f 0 + sum_below (λ j. f (suc j)) n
unfolding sum_below
sum_front f zero = omega arith
sum_front f (suc n) = let h = sum_front f n in omega arith

pub sum_same : (f g : ℕ → ℕ) (n : ℕ) → ((k : ℕ) → k < n → f k ≡ g k) → sum_below f n ≡ sum_below g n
unfolding sum_below
sum_same f g zero h = refl
sum_same f g (suc n) h =
    let e = sum_same f g n (λ k l. h k (omega arith)) in
    let e' = h n (omega arith) in
    omega arith

sum_plus : (f : ℕ → ℕ) (m n : ℕ) → sum_below f (m + n) ≡ sum_below f m + sum_below (λ j. f (m + j)) n
unfolding sum_below
sum_plus f m zero = let e : m + 0 ≡ m = omega arith in let r : sum_below f m ≡ sum_below f m + 0 = omega arith in ap (sum_below f) e ∙ r
sum_plus f m (suc n) =
    let e : m + suc n ≡ suc (m + n) = omega arith in
    let h = sum_plus f m n in
    let r : sum_below f (m + n) + f (m + n) ≡ sum_below f m + (sum_below (λ j. f (m + j)) n + f (m + n)) = omega arith in
    ap (sum_below f) e ∙ r

pub sum_le : (f : ℕ → ℕ) (n : ℕ) → ((k : ℕ) → f k ≤ 1) → sum_below f n ≤ n
unfolding sum_below
sum_le f zero h = omega arith
sum_le f (suc n) h = let a = sum_le f n h in let b = h n in omega arith

half_lt : (w n : ℕ) → n < 2 ^ suc w → n / 2 < 2 ^ w
half_lt w n h = let e = pow-suc 2 w in omega arith

ones_sum : (w n : ℕ) → n < 2 ^ w → ones n ≡ sum_below (bit n) w
unfolding sum_below
ones_sum zero n h = let e = ones-le 0 n h in omega arith
ones_sum (suc w) n h =
    let i = ones_sum w (n / 2) (half_lt w n h) in
    let s = ones_step n in
    let f = sum_front (bit n) w in
    let q = sum_same (λ j. bit n (suc j)) (bit (n / 2)) w (λ k l. bit_at-suc n k) in
    omega arith

in_word : (ws : List ℕ) (i j : ℕ) → j < 64 → in_words ws (i * 64 + j) ≡ bit (get_or ws i 0) j
in_word ws i j h = rw (div-mul-add i 64 j h, mod-mul-add i 64 j h) refl

abbrev pub both : List ℕ → List ℕ → ℕ → ℕ
both a b c = min (in_words a c) (in_words b c)

pub both_le : (a b : List ℕ) (c : ℕ) → both a b c ≤ 1
both_le a b c = omega arith

-- one word more
pub count_more : (a b : List ℕ) (i : ℕ) → bit_and (get_or a i 0) (get_or b i 0) < 2 ^ 64 →
    sum_below (both a b) ((i + 1) * 64) ≡ sum_below (both a b) (i * 64) + ones (bit_and (get_or a i 0) (get_or b i 0))
count_more a b i h =
    let e : (i + 1) * 64 ≡ i * 64 + 64 = omega arith in
    let w = bit_and (get_or a i 0) (get_or b i 0) in
    let s = sum_same (λ j. both a b (i * 64 + j)) (bit w) 64 (λ j l. rw (in_word a i j l, in_word b i j l) (sym (bit_at_and (get_or a i 0) (get_or b i 0) j))) in
    let o = ones_sum 64 w h in
    ap (sum_below (both a b)) e ∙ sum_plus (both a b) (i * 64) 64 ∙ ap (λ m. sum_below (both a b) (i * 64) + m) (s ∙ sym o)
