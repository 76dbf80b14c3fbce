-- The order of lists of entries, and where the extensions of a list stand in it.
use Rattle.std.proofs.Common.{◌≡◌, ℕ, zero, suc, ◌+◌, ◌<◌, ◌≤◌, ◌⊎◌, List, [], ◌∷◌, ◌++◌, sym, refl, ◌∙◌, subst, inl, inr, ⊎_elim, append_assoc, arith}
use Rattle.std.proofs.lemmas.Bool.{cases_lt, cases_order}
use Rattle.route.specs.Order.{Before, StrictAndTotal}

-- `a` is `b`, or comes before it
abbrev pub Upto : List ℕ → List ℕ → Type 0
Upto [] ys = Unit {0}
Upto (x ∷ xs) [] = ⊥
Upto (x ∷ xs) (y ∷ ys) = (x < y) ⊎ ((x ≡ y) × Upto xs ys)

-- `a` comes before `b`, and `b` does not begin with it
abbrev pub Past : List ℕ → List ℕ → Type 0
Past [] ys = ⊥
Past (x ∷ xs) [] = ⊥
Past (x ∷ xs) (y ∷ ys) = (x < y) ⊎ ((x ≡ y) × Past xs ys)

pub before_irr : (a : List ℕ) → Before a a → ⊥
before_irr [] h = h
before_irr (x ∷ xs) (inl l) = omega arith
before_irr (x ∷ xs) (inr h) = before_irr xs h.1

pub before_trans : (a b c : List ℕ) → Before a b → Before b c → Before a c
before_trans [] [] c h k = absurd h
before_trans [] (y ∷ ys) [] h k = absurd k
before_trans [] (y ∷ ys) (z ∷ zs) h k = tt
before_trans (x ∷ xs) [] c h k = absurd h
before_trans (x ∷ xs) (y ∷ ys) [] h k = absurd k
before_trans (x ∷ xs) (y ∷ ys) (z ∷ zs) (inl h) (inl k) = inl (omega arith)
before_trans (x ∷ xs) (y ∷ ys) (z ∷ zs) (inl h) (inr k) = inl (omega (arith, k.0))
before_trans (x ∷ xs) (y ∷ ys) (z ∷ zs) (inr h) (inl k) = inl (omega (arith, h.0))
before_trans (x ∷ xs) (y ∷ ys) (z ∷ zs) (inr h) (inr k) = inr (h.0 ∙ k.0, before_trans xs ys zs h.1 k.1)

pub upto_cases : (a r : List ℕ) → Upto a r → (r ≡ a) ⊎ Before a r
upto_cases [] [] h = inl refl
upto_cases [] (y ∷ ys) h = inr tt
upto_cases (x ∷ xs) [] h = absurd h
upto_cases (x ∷ xs) (y ∷ ys) (inl l) = inr (inl l)
upto_cases (x ∷ xs) (y ∷ ys) (inr h) =
    let e = h.0 in
    ⊎_elim (λ (k : ys ≡ xs). inl (cc)) (λ b. inr (inr (e, b))) (upto_cases xs ys h.1)

-- what comes after `p` comes from `p` and 0 on
pub after_zero : (p r : List ℕ) → Before p r → Upto (p ++ 0 ∷ []) r
after_zero [] [] h = absurd h
after_zero [] (zero ∷ ys) h = inr (refl, tt)
after_zero [] (suc y ∷ ys) h = inl (omega arith)
after_zero (x ∷ xs) [] h = absurd h
after_zero (x ∷ xs) (y ∷ ys) (inl l) = inl l
after_zero (x ∷ xs) (y ∷ ys) (inr h) = inr (h.0, after_zero xs ys h.1)

-- what comes from `q` and `f` on begins with `q` and goes on with no less than `f`, or is past `q`
pub parts : (q r : List ℕ) (f : ℕ) → Upto (q ++ f ∷ []) r → ((e : ℕ) × (t : List ℕ) × (r ≡ q ++ e ∷ t) × (f ≤ e)) ⊎ Past q r
parts [] [] f h = absurd h
parts [] (y ∷ ys) f (inl l) = inl (y, ys, refl, omega arith)
parts [] (y ∷ ys) f (inr h) = inl (y, ys, refl, omega (arith, h.0))
parts (x ∷ xs) [] f h = absurd h
parts (x ∷ xs) (y ∷ ys) f (inl l) = inr (inl l)
parts (x ∷ xs) (y ∷ ys) f (inr h) =
    let e = h.0 in
    ⊎_elim
    (λ (s : (e : ℕ) × (t : List ℕ) × (ys ≡ xs ++ e ∷ t) × (f ≤ e)). let k = s.2 in inl (s.0, s.1, cc, s.3))
    (λ p. inr (inr (e, p)))
    (parts xs ys f h.1)

pub past_upto : (q t r : List ℕ) → Past q r → Upto (q ++ t) r
past_upto [] t r h = absurd h
past_upto (x ∷ xs) t [] h = absurd h
past_upto (x ∷ xs) t (y ∷ ys) (inl l) = inl l
past_upto (x ∷ xs) t (y ∷ ys) (inr h) = inr (h.0, past_upto xs t ys h.1)

pub past_next : (q r : List ℕ) (e : ℕ) → Past (q ++ e ∷ []) r → Upto (q ++ (e + 1) ∷ []) r
past_next [] [] e h = absurd h
past_next [] (y ∷ ys) e (inl l) = ⊎_elim (λ k. inl k) (λ k. inr (omega arith, tt)) (cases_lt (e + 1) y)
past_next [] (y ∷ ys) e (inr h) = absurd h.1
past_next (x ∷ xs) [] e h = absurd h
past_next (x ∷ xs) (y ∷ ys) e (inl l) = inl l
past_next (x ∷ xs) (y ∷ ys) e (inr h) = inr (h.0, past_next xs ys e h.1)

pub upto_raise : (q t : List ℕ) (e e' : ℕ) → e ≤ e' → Upto (q ++ e ∷ []) (q ++ e' ∷ t)
upto_raise [] t e e' h = ⊎_elim (λ k. inl k) (λ k. inr (omega arith, tt)) (cases_lt e e')
upto_raise (x ∷ xs) t e e' h = inr (refl, upto_raise xs t e e' h)

-- the next place of a search: below an entry that was found
pub before_child : (q : List ℕ) (f e : ℕ) → f ≤ e → Before (q ++ f ∷ []) ((q ++ e ∷ []) ++ 0 ∷ [])
before_child [] f e h = ⊎_elim (λ k. inl k) (λ k. inr (omega arith, tt)) (cases_lt f e)
before_child (x ∷ xs) f e h = inr (refl, before_child xs f e h)

-- and after an entry that was done with, with all that hung below it
before_next : (q t : List ℕ) (e : ℕ) → Before (q ++ e ∷ t) (q ++ (e + 1) ∷ [])
before_next [] t e = inl (omega arith)
before_next (x ∷ xs) t e = inr (refl, before_next xs t e)

pub before_back : (q t : List ℕ) (e f : ℕ) → Before ((q ++ e ∷ t) ++ f ∷ []) (q ++ (e + 1) ∷ [])
before_back q t e f =
    let B : List ℕ → Type 0 = λ x. Before x (q ++ (e + 1) ∷ []) in
    subst B (sym (append_assoc q (e ∷ t) (f ∷ []))) (before_next q (t ++ f ∷ []) e)

pub before_zero : (p : List ℕ) → Before p (p ++ 0 ∷ [])
before_zero [] = tt
before_zero (x ∷ xs) = inr (refl, before_zero xs)

before_lift : (q : List ℕ) (f e : ℕ) → f < e → Before (q ++ f ∷ []) (q ++ e ∷ [])
before_lift [] f e h = inl h
before_lift (x ∷ xs) f e h = inr (refl, before_lift xs f e h)

pub before_raise : (p q : List ℕ) (f e : ℕ) → f ≤ e → Before p (q ++ f ∷ []) → Before p (q ++ e ∷ [])
before_raise p q f e h b =
    ⊎_elim
    (λ k. before_trans p (q ++ f ∷ []) (q ++ e ∷ []) b (before_lift q f e k))
    (λ k. let s : f ≡ e = omega arith in let F : ℕ → Type 0 = λ n. Before p (q ++ n ∷ []) in subst F s b)
    (cases_lt f e)

pub before_total : (a b : List ℕ) → (a ≡ b) ⊎ (Before a b ⊎ Before b a)
before_total [] [] = inl refl
before_total [] (y ∷ ys) = inr (inl tt)
before_total (x ∷ xs) [] = inr (inr tt)
before_total (x ∷ xs) (y ∷ ys) =
    ⊎_elim
    (λ (e : x ≡ y).
    ⊎_elim (λ (k : xs ≡ ys). inl (cc)) (⊎_elim (λ b. inr (inl (inr (e, b)))) (λ b. inr (inr (inr (sym e, b))))) (before_total xs ys))
    (⊎_elim (λ l. inr (inl (inl l))) (λ l. inr (inr (inl l))))
    (cases_order x y)

pub strict_and_total : StrictAndTotal
strict_and_total = (before_irr, before_trans, before_total)
