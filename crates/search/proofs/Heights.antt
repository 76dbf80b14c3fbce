-- A number that orders the lists of at most 513 numbers up to 2048, so that a search that goes forward ends.
use Rattle.std.proofs.Common.{ℕ, zero, suc, ◌+◌, ◌-◌, ◌*◌, ◌^◌, ◌<◌, ◌≤◌, List, [], ◌∷◌, length, get_or, ap, inl, inr, suc-le-suc, mul-le-mul_right, add-mul, arith}
use native.Mathlib.Nat.{pow-succ', pow-zero}
use Rattle.route.specs.Order.{Before}

-- no entry is above `b`
abbrev pub Within : ℕ → List ℕ → Type 0
Within b xs = (i : ℕ) → i < length xs → get_or xs i 0 ≤ b

abbrev rank : ℕ → ℕ → List ℕ → ℕ
rank b zero xs = 0
rank b (suc n) [] = 0
rank b (suc n) (x ∷ xs) = (x + 1) * (b + 2) ^ n + rank b n xs

head_in : (b x : ℕ) (xs : List ℕ) → Within b (x ∷ xs) → x ≤ b
head_in b x xs h = h 0 (omega arith)

tail_in : (b x : ℕ) (xs : List ℕ) → Within b (x ∷ xs) → Within b xs
tail_in b x xs h i l = h (suc i) (suc-le-suc l)

scaled : (m n p : ℕ) → m ≤ n → m * p ≤ n * p
scaled m n p h = mul-le-mul_right p h

positive : (b n : ℕ) → 0 < (b + 2) ^ n
positive b zero = let e = pow-zero (b + 2) in omega arith
positive b (suc n) =
    let i = positive b n in
    let e = pow-succ' (b + 2) n in
    let s = add-mul b 2 ((b + 2) ^ n) in
    omega arith

rank_lt : (b n : ℕ) (xs : List ℕ) → Within b xs → rank b n xs < (b + 2) ^ n
rank_lt b zero xs h = positive b 0
rank_lt b (suc n) [] h = positive b (suc n)
rank_lt b (suc n) (x ∷ xs) h =
    let i = rank_lt b n xs (tail_in b x xs h) in
    let k = head_in b x xs h in
    let s = scaled x b ((b + 2) ^ n) k in
    let e = pow-succ' (b + 2) n in
    let d = add-mul b 2 ((b + 2) ^ n) in
    let c = add-mul x 1 ((b + 2) ^ n) in
    omega arith

rank_mono : (b n : ℕ) (xs ys : List ℕ) → Within b xs → length ys ≤ n → Before xs ys → rank b n xs < rank b n ys
rank_mono b n [] [] h l k = absurd k
rank_mono b n (x ∷ xs) [] h l k = absurd k
rank_mono b zero [] (y ∷ ys) h l k = absurd (omega arith)
rank_mono b zero (x ∷ xs) (y ∷ ys) h l k = absurd (omega arith)
rank_mono b (suc n) [] (y ∷ ys) h l k =
    let p = positive b n in
    let c = add-mul y 1 ((b + 2) ^ n) in
    omega arith
rank_mono b (suc n) (x ∷ xs) (y ∷ ys) h l (inl k) =
    let i = rank_lt b n xs (tail_in b x xs h) in
    let s = scaled (x + 1) y ((b + 2) ^ n) (omega arith) in
    let c = add-mul y 1 ((b + 2) ^ n) in
    omega arith
rank_mono b (suc n) (x ∷ xs) (y ∷ ys) h l (inr k) =
    let i = rank_mono b n xs ys (tail_in b x xs h) (omega arith) k.1 in
    let e = ap (λ z. (z + 1) * (b + 2) ^ n) k.0 in
    omega arith

-- how many lists may still come
pub height : ℕ → ℕ → List ℕ → ℕ
height b n xs = (b + 2) ^ n - rank b n xs

pub height_falls : (b n : ℕ) (xs ys : List ℕ) → Within b xs → length ys ≤ n → Before xs ys → height b n ys < height b n xs
unfolding height
height_falls b n xs ys h l k =
    let i = rank_lt b n xs h in
    let j = rank_mono b n xs ys h l k in
    omega arith
