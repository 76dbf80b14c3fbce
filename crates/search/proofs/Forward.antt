-- A search that goes forward through the paths, and what it has passed.
use Rattle.std.proofs.Common.{◌≡◌, ℕ, ◌+◌, ◌<◌, ◌≤◌, true, false, List, [], ◌∷◌, ◌++◌, Some, None, sym, refl, subst, ⊎_elim, arith}
use Rattle.std.proofs.lemmas.List.{length_push}
use Rattle.std.proofs.lemmas.Bool.{cases_lt}
use Rattle.plan.specs.Layout.{Layout}
use Rattle.route.specs.Order.{Before}
use Rattle.route.specs.Paths.{Ends, Route}
use Rattle.route.specs.Growth.{May, Begun}
use Rattle.route.proofs.Lex.{Upto, parts, past_upto, upto_raise, upto_cases, after_zero, past_next, before_trans, before_zero, before_back, before_raise}
use Rattle.route.proofs.Growth.{grown_front, grown_push, onto, done}
use Rattle.route.proofs.Places.{begun_path, path_begun}
use Rattle.search.specs.Found.{Least, Found}
use Rattle.search.specs.Reach.{BarrenBelow}

-- The search from `p` has come to the path `q`, below which it is to look from the entry `f` on.
pub record Ahead (l : Layout) (p q : List ℕ) (f : ℕ) : Type 0 where
  pub begun : Begun l q
  pub onward : Before p (q ++ f ∷ [])
  pub passed : (r : List ℕ) → Route l r → Before p r → Upto (q ++ f ∷ []) r

pub ahead_start : (l : Layout) (p : List ℕ) → Begun l p → Ahead l p p 0
ahead_start l p g = record { begun = g; onward = before_zero p; passed = λ r t b. after_zero p r b }

module _ (l : Layout) (p q : List ℕ) (f e : ℕ) (a : Ahead l p q f) (m : Least (May l q) f (Some e)) where
  pub begun_more : Begun l (q ++ e ∷ [])
  begun_more = grown_push (May l) q e a.begun m.0

  -- what comes after `p` comes from the found path on
  from_found : (r : List ℕ) → Route l r → Before p r → Upto (q ++ e ∷ []) r
  from_found r t b = onto (May l) q r f e m.2 (path_begun l r t.0) (a.passed r t b)

  after_found : Before p (q ++ e ∷ [])
  after_found = before_raise p q f e m.1 a.onward

  -- a route is found
  pub ahead_hit : Ends l (q ++ e ∷ []) → Found l p (q ++ e ∷ []) true
  ahead_hit h = (
    (begun_path l (q ++ e ∷ []) (omega (arith, length_push q e)) begun_more, h),
    after_found,
    λ r t b. upto_cases (q ++ e ∷ []) r (from_found r t b),
  )

  -- a path is found that is no route: go on below it
  pub ahead_down : (Ends l (q ++ e ∷ []) → ⊥) → Ahead l p (q ++ e ∷ []) 0
  ahead_down h = record {
    begun = begun_more;
    onward = before_trans p (q ++ e ∷ []) ((q ++ e ∷ []) ++ 0 ∷ []) after_found (before_zero (q ++ e ∷ []));
    passed = λ r t b.
        ⊎_elim
        (λ (s : r ≡ q ++ e ∷ []). let F : List ℕ → Type 0 = λ x. Ends l x in absurd (h (subst F s t.1)))
        (λ k. after_zero (q ++ e ∷ []) r k)
        (upto_cases (q ++ e ∷ []) r (from_found r t b));
  }

-- no route goes on below `q` with an entry under `g`
pub ahead_below : (l : Layout) (p q : List ℕ) (g : ℕ) → Ahead l p q 0 → BarrenBelow l q g → Ahead l p q g
ahead_below l p q g a none = record {
  begun = a.begun;
  onward = before_raise p q 0 g (omega arith) a.onward;
  passed = λ r t b.
      ⊎_elim
      (λ (s : (e : ℕ) × (t : List ℕ) × (r ≡ q ++ e ∷ t) × (0 ≤ e)).
      let R : List ℕ → Type 0 = λ x. Route l x in
      let U : List ℕ → Type 0 = λ x. Upto (q ++ g ∷ []) x in
      ⊎_elim
      (λ (k : s.0 < g). absurd (none s.0 s.1 k (subst R s.2 t)))
      (λ (k : g ≤ s.0). subst U (sym s.2) (upto_raise q s.1 g s.0 k))
      (cases_lt s.0 g))
      (λ k. past_upto q (g ∷ []) r k)
      (parts q r 0 (a.passed r t b));
}

-- nothing is left below `q`: go back
pub ahead_back : (l : Layout) (p q : List ℕ) (e f : ℕ) → Ahead l p (q ++ e ∷ []) f → Least (May l (q ++ e ∷ [])) f None → Ahead l p q (e + 1)
ahead_back l p q e f a m = record {
  begun = grown_front (May l) q (e ∷ []) a.begun;
  onward = before_trans p ((q ++ e ∷ []) ++ f ∷ []) (q ++ (e + 1) ∷ []) a.onward (before_back q [] e f);
  passed = λ r t b. past_next q r e (done (May l) (q ++ e ∷ []) r f m (path_begun l r t.0) (a.passed r t b));
}

pub ahead_over : (l : Layout) (p : List ℕ) (f : ℕ) → Ahead l p [] f → Least (May l []) f None → Found l p [] false
ahead_over l p f a m = (refl, λ r t b. done (May l) [] r f m (path_begun l r t.0) (a.passed r t b))
