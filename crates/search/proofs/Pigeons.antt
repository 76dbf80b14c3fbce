-- Different numbers below `n` are at most `n`.
use Rattle.std.proofs.Common.{◌≡◌, ℕ, zero, suc, ◌<◌, ◌≤◌, cond, eqb, ◌⊎◌, List, length, get_or, take, sym, ap, ◌∙◌, inl, inr, ⊎_elim, arith}
use Rattle.std.proofs.lemmas.Bool.{cases_eq, eq-eqb, ne_eqb, cond-true, cond-false}
use Rattle.std.proofs.lemmas.List.{get_or-take, length-take-le}
use Rattle.route.specs.Growth.{Grown}

-- `x`, with `v` in the place of `n`
abbrev moved : ℕ → ℕ → ℕ → ℕ
moved v n x = cond (eqb x n) v x

moved_cases : (v n x : ℕ) → ((x ≡ n) × (moved v n x ≡ v)) ⊎ ((x ≡ n → ⊥) × (moved v n x ≡ x))
moved_cases v n x =
    ⊎_elim
    (λ e. inl (e, cond-true (eqb x n) v x (eq-eqb x n e)))
    (λ d. inr (d, cond-false (eqb x n) v x (ne_eqb x n d)))
    (cases_eq x n)

moved_low : (v n x : ℕ) → x < suc n → v < n → moved v n x < n
moved_low v n x h l = ⊎_elim (λ s. omega (arith, s.1)) (λ s. let d = s.0 in omega (arith, s.1)) (moved_cases v n x)

moved_apart : (v n x y : ℕ) → (x ≡ y → ⊥) → (x ≡ v → ⊥) → (y ≡ v → ⊥) → moved v n x ≡ moved v n y → ⊥
moved_apart v n x y a b c e =
    ⊎_elim
    (λ (s : (x ≡ n) × (moved v n x ≡ v)). ⊎_elim (λ t. a (s.0 ∙ sym t.0)) (λ t. c (sym t.1 ∙ sym e ∙ s.1)) (moved_cases v n y))
    (λ (s : (x ≡ n → ⊥) × (moved v n x ≡ x)). ⊎_elim (λ t. b (sym s.1 ∙ e ∙ t.1)) (λ t. a (sym s.1 ∙ e ∙ t.1)) (moved_cases v n y))
    (moved_cases v n x)

pub pigeons : (n m : ℕ) (f : ℕ → ℕ) → ((i : ℕ) → i < m → f i < n) → ((i j : ℕ) → i < j → j < m → f i ≡ f j → ⊥) → m ≤ n
pigeons n zero f low apart = omega arith
pigeons zero (suc m) f low apart = let h = low m (omega arith) in absurd (omega arith)
pigeons (suc n) (suc m) f low apart =
    ⊎_elim
    -- the last of them is `n` itself
    (λ (e : f m ≡ n).
    let i = pigeons n m f (λ i l. let a = low i (omega arith) in let b = apart i m l (omega arith) in let c : f i ≡ n → ⊥ = λ d. b (d ∙ sym e) in omega arith) (λ i j l k. apart i j l (omega arith)) in
    omega arith)
    (λ (d : f m ≡ n → ⊥).
    let v : f m < n = let a = low m (omega arith) in omega arith in
    let i =
    pigeons n m (λ i. moved (f m) n (f i)) (λ i l. moved_low (f m) n (f i) (low i (omega arith)) v)
    (λ i j l k. moved_apart (f m) n (f i) (f j) (apart i j l (omega arith)) (apart i m (omega arith) (omega arith)) (apart j m k (omega arith))) in
    omega arith)
    (cases_eq (f m) n)

-- where each entry stands on a place of its own, of `n`, the list has at most `n`
pub grown_short : (May : List ℕ → ℕ → Type 0) (κ : ℕ → ℕ) (n : ℕ) (q : List ℕ)
    → ((i : ℕ) → i < length q → κ (get_or q i 0) < n)
    → ((p : List ℕ) (e : ℕ) → May p e → (k : ℕ) → k < length p → κ (get_or p k 0) ≡ κ e → ⊥)
    → Grown May q → length q ≤ n
grown_short May κ n q low new g =
    pigeons n (length q) (λ i. κ (get_or q i 0)) low
    (λ i j l k e.
    let h : i < length (take j q) = omega (arith, length-take-le j q (omega arith)) in
    new (take j q) (get_or q j 0) (g j k) i h (ap κ (get_or-take j q i 0 l) ∙ e))
