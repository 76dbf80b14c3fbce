-- The digits of a number.
use Rattle.std.proofs.Common.{◌≡◌, ℕ, zero, suc, ◌+◌, ◌/◌, ◌%◌, ◌^◌, ◌<◌, ◌≤◌, [], ◌∷◌, ◌++◌, length, sym, ap, ◌∙◌, ⊎_elim, pow-suc, arith, length-append}
use Rattle.std.proofs.lemmas.Bool.{cases_lt, cond-true, cond-false, lt-ltb, le-ltb}
use Rattle.lines.specs.Decimal.{digit, digits, decimal}

one : (f n : ℕ) → n < 10 → digits (suc f) n ≡ digit n ∷ []
unfolding digits
one f n h = cond-true _ _ _ (lt-ltb n 10 h)

more : (f n : ℕ) → 10 ≤ n → digits (suc f) n ≡ digits f (n / 10) ++ (digit (n % 10) ∷ [])
unfolding digits
more f n h = cond-false _ _ _ (le-ltb n 10 h)

-- once there are steps enough, their number does not matter
steps : (f g n : ℕ) → n < f → n < g → digits f n ≡ digits g n
steps zero g n p q = absurd (omega arith)
steps (suc f) zero n p q = absurd (omega arith)
steps (suc f) (suc g) n p q =
    ⊎_elim
    (λ (h : n < 10). one f n h ∙ sym (one g n h))
    (λ (h : 10 ≤ n).
    more f n h
    ∙ ap (λ ds. ds ++ (digit (n % 10) ∷ [])) (steps f g (n / 10) (omega arith) (omega arith))
    ∙ sym (more g n h))
    (cases_lt n 10)

pub decimal_digit : (n : ℕ) → n < 10 → decimal n ≡ digit n ∷ []
unfolding decimal
decimal_digit n h = one n n h

pub decimal_step : (n : ℕ) → 10 ≤ n → decimal n ≡ decimal (n / 10) ++ (digit (n % 10) ∷ [])
unfolding decimal
decimal_step n h =
    more n n h ∙ ap (λ ds. ds ++ (digit (n % 10) ∷ [])) (steps n (suc (n / 10)) (n / 10) (omega arith) (omega arith))

pub length_step : (n : ℕ) → 10 ≤ n → length (decimal n) ≡ length (decimal (n / 10)) + 1
length_step n h = ap length (decimal_step n h) ∙ length-append (decimal (n / 10)) (digit (n % 10) ∷ [])

pub decimal_two : (n : ℕ) → 10 ≤ n → n < 100 → decimal n ≡ digit (n / 10) ∷ (digit (n % 10) ∷ [])
decimal_two n low high = decimal_step n low ∙ ap (λ ds. ds ++ (digit (n % 10) ∷ [])) (decimal_digit (n / 10) (omega arith))

pub decimal_three : (n : ℕ) → 100 ≤ n → n < 1000 → decimal n ≡ digit (n / 100) ∷ (digit (n / 10 % 10) ∷ (digit (n % 10) ∷ []))
decimal_three n low high =
    let e : n / 10 / 10 ≡ n / 100 = omega arith in
    decimal_step n (omega arith)
    ∙ ap (λ ds. ds ++ (digit (n % 10) ∷ [])) (decimal_two (n / 10) (omega arith) (omega arith) ∙ ap (λ d. digit d ∷ (digit (n / 10 % 10) ∷ [])) e)

-- a number below 10 ^ k has at most k digits
few : (f k n : ℕ) → n < 10 ^ suc k → length (digits f n) ≤ suc k
unfolding digits
few zero k n h = omega arith
few (suc f) zero n h = let e = ap length (one f n h) in omega arith
few (suc f) (suc k) n h =
    ⊎_elim
    (λ (l : n < 10). let e = ap length (one f n l) in omega arith)
    (λ (l : 10 ≤ n).
    let e = ap length (more f n l) ∙ length-append (digits f (n / 10)) (digit (n % 10) ∷ []) in
    let p = pow-suc 10 (suc k) in
    let i = few f k (n / 10) (omega arith) in
    omega arith)
    (cases_lt n 10)

pub length_decimal : (n : ℕ) → n < 2 ^ 64 → length (decimal n) ≤ 20
unfolding decimal
length_decimal n h = few (suc n) 19 n (omega arith)

pub length_small : (n : ℕ) → n < 1000 → length (decimal n) ≤ 3
unfolding decimal
length_small n h = few (suc n) 2 n (omega arith)
