-- What the first failing check of a list of checks says of its parts.
use Rattle.std.proofs.Common.{◌≡◌, ℕ, zero, suc, ◌+◌, ◌<◌, Bool, true, false, cond, List, [], ◌∷◌, ◌++◌, Ok, Err, Result, sym, refl, ap, ◌∙◌, inl, inr, add-one, arith}
use Rattle.std.proofs.lemmas.Bool.{cases_eq}
use Rattle.file.specs.Checks.{Check, first_failing, each, then}

module _ {F : Type 0} where
  -- checks that all pass
  abbrev pub Passed : List (Check F) → Type 0
  Passed cs = first_failing cs ≡ Ok tt

  -- the first check of a list, and those after it
  pub head_passed : (b : Bool) (e : F) (r : Result (Unit {0}) F) → cond b r (Err e) ≡ Ok tt → (b ≡ true) × (r ≡ Ok tt)
  head_passed true e r h = (refl, h)
  head_passed false e r h = (cc, cc)

  pub passed_head : (b : Bool) (e : F) (r : Result (Unit {0}) F) → b ≡ true → r ≡ Ok tt → cond b r (Err e) ≡ Ok tt
  passed_head b e r h k = cc

  first_then : (c : Check F) (b r : Result (Unit {0}) F) → cond c.passes (then b r) (Err c.fault) ≡ then (cond c.passes b (Err c.fault)) r
  first_then c b r = elim c.passes as (λ t. cond t (then b r) (Err c.fault) ≡ then (cond t b (Err c.fault)) r) [ true ↦ refl | false ↦ refl ]

  pub failing-++ : (a b : List (Check F)) → first_failing (a ++ b) ≡ then (first_failing a) (first_failing b)
  failing-++ [] b = refl
  failing-++ (c ∷ cs) b = ap (λ r. cond c.passes r (Err c.fault)) (failing-++ cs b) ∙ first_then c (first_failing cs) (first_failing b)

  pub passed-++ : (a b : List (Check F)) → Passed a → Passed b → Passed (a ++ b)
  passed-++ a b p q = let e = failing-++ a b in cc

  then_parts : (x y : Result (Unit {0}) F) → then x y ≡ Ok tt → (x ≡ Ok tt) × (y ≡ Ok tt)
  then_parts (Ok tt) y h = (refl, h)
  then_parts (Err e) y h = (h, cc)

  pub parts-++ : (a b : List (Check F)) → Passed (a ++ b) → Passed a × Passed b
  parts-++ a b h = then_parts (first_failing a) (first_failing b) (sym (failing-++ a b) ∙ h)

  pub each_none : (f : ℕ → List (Check F)) → Passed (each 0 f)
  unfolding each
  each_none f = refl

  each_suc : (n : ℕ) (f : ℕ → List (Check F)) → first_failing (each (suc n) f) ≡ then (first_failing (each n f)) (first_failing (f n))
  unfolding each
  each_suc n f = failing-++ (each n f) (f n)

  pub each_more : (i : ℕ) (f : ℕ → List (Check F)) → Passed (each i f) → Passed (f i) → Passed (each (i + 1) f)
  each_more i f p q = rw add-one (let e = each_suc i f in cc)

  pub each_stop : (n i : ℕ) (f : ℕ → List (Check F)) (e : F) → i < n → Passed (each i f) → first_failing (f i) ≡ Err e → first_failing (each n f) ≡ Err e
  each_stop zero i f e h p q = let z : ⊥ = omega arith in elim z [ ]
  each_stop (suc n) i f e h p q =
      elim (cases_eq i n) [
        | inl k ↦ let m = each_suc n f in cc
        | inr k ↦ let m = each_suc n f in let r = each_stop n i f e (omega arith) p q in cc
      ]

  -- checks pass for all exactly when they pass for each
  pub each_all : (n : ℕ) (f : ℕ → List (Check F)) → Passed (each n f) → (i : ℕ) → i < n → Passed (f i)
  each_all zero f p i h = let z : ⊥ = omega arith in elim z [ ]
  each_all (suc n) f p i h =
      let b = then_parts (first_failing (each n f)) (first_failing (f n)) (sym (each_suc n f) ∙ p) in
      elim (cases_eq i n) [
        | inl k ↦ let l = b.1 in cc
        | inr k ↦ each_all n f b.0 i (omega arith)
      ]

  pub all_each : (n : ℕ) (f : ℕ → List (Check F)) → ((i : ℕ) → i < n → Passed (f i)) → Passed (each n f)
  all_each zero f h = each_none f
  all_each (suc n) f h =
      let p = all_each n f (λ i k. h i (omega arith)) in
      let q = h n (omega arith) in
      let e = each_suc n f in cc
