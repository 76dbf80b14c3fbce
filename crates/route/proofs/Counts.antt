-- How often a component comes, and whether it comes at all.
use Rattle.std.proofs.Common.{◌≡◌, ℕ, zero, suc, ◌+◌, ◌/◌, ◌<◌, cond, eqb, List, [], ◌∷◌, ◌++◌, sym, refl, ⊎_elim, suc-le-suc, arith}
use Rattle.std.proofs.lemmas.Bool.{cases_eq, eq-eqb, ne_eqb, cond-true, cond-false}
use Rattle.route.specs.Components.{times}
use Rattle.route.specs.Growth.{New}

pub times_none : (c : ℕ) → times c [] ≡ 0
unfolding times
times_none c = refl

-- 1 where the entry is the component's
abbrev pub one_of : ℕ → ℕ → ℕ
one_of c e = cond (eqb c (e / 4)) 1 0

pub times_push : (c e : ℕ) (q : List ℕ) → times c (q ++ e ∷ []) ≡ times c q + one_of c e
unfolding times
times_push c e [] = omega arith
times_push c e (x ∷ q) = let h = times_push c e q in omega arith

pub one_here : (c e : ℕ) → c ≡ e / 4 → one_of c e ≡ 1
one_here c e h = cond-true (eqb c (e / 4)) 1 0 (eq-eqb c (e / 4) h)

pub one_else : (c e : ℕ) → (c ≡ e / 4 → ⊥) → one_of c e ≡ 0
one_else c e h = cond-false (eqb c (e / 4)) 1 0 (ne_eqb c (e / 4) h)

-- a component that does not come is new
pub none_new : (q : List ℕ) (e : ℕ) → times (e / 4) q ≡ 0 → New q e
unfolding times
none_new [] e h k l = absurd (omega arith)
none_new (x ∷ q) e h zero l = λ s. let o = one_here (e / 4) x (sym s) in omega arith
none_new (x ∷ q) e h (suc k) l = none_new q e (omega arith) k (omega arith)

-- one that comes is not
pub some_old : (q : List ℕ) (e : ℕ) → 0 < times (e / 4) q → New q e → ⊥
unfolding times
some_old [] e h n = omega arith
some_old (x ∷ q) e h n =
    ⊎_elim
    (λ (s : e / 4 ≡ x / 4). n 0 (omega arith) (sym s))
    (λ (d : e / 4 ≡ x / 4 → ⊥). let o = one_else (e / 4) x d in some_old q e (omega arith) (λ k l. n (suc k) (suc-le-suc l)))
    (cases_eq (e / 4) (x / 4))
