-- A tree of lists: an entry may stand after a list, or not.
use Rattle.std.proofs.Common.{◌≡◌, ℕ, ◌<◌, ◌≤◌, List, [], ◌∷◌, ◌++◌, length, get_or, take, sym, refl, subst, ⊎_elim, arith, length-append}
use Rattle.std.proofs.lemmas.List.{take_at, get_or_at, take-append-le, get_or_append_left, length_push}
use Rattle.std.proofs.lemmas.Bool.{cases_lt}
use Rattle.route.specs.Growth.{Grown}
use Rattle.route.proofs.Lex.{Upto, Past, parts, past_upto, upto_raise}

module _ (May : List ℕ → ℕ → Type 0) where
  pub grown_at : (q t : List ℕ) (e : ℕ) → Grown May (q ++ e ∷ t) → May q e
  grown_at q t e g =
      let l : length q < length (q ++ e ∷ t) = omega (arith, length-append q (e ∷ t)) in
      let F : List ℕ → Type 0 = λ x. May x (get_or (q ++ e ∷ t) (length q) 0) in
      let G : ℕ → Type 0 = λ x. May q x in
      subst G (get_or_at q e t 0 (length q) refl) (subst F (take_at q (e ∷ t) (length q) refl) (g (length q) l))

  pub grown_front : (q t : List ℕ) → Grown May (q ++ t) → Grown May q
  grown_front q t g i h =
      let l : i < length (q ++ t) = omega (arith, length-append q t) in
      let k : i ≤ length q = omega arith in
      let F : List ℕ → Type 0 = λ x. May x (get_or (q ++ t) i 0) in
      let G : ℕ → Type 0 = λ x. May (take i q) x in
      subst G (get_or_append_left q t 0 i h) (subst F (take-append-le i q t k) (g i l))

  pub grown_none : Grown May []
  grown_none i h = absurd (omega arith)

  pub grown_push : (q : List ℕ) (e : ℕ) → Grown May q → May q e → Grown May (q ++ e ∷ [])
  grown_push q e g m i h =
      let n = length_push q e in
      ⊎_elim
      (λ (l : i < length q).
      let k : i ≤ length q = omega arith in
      let F : List ℕ → Type 0 = λ x. May x (get_or (q ++ e ∷ []) i 0) in
      let G : ℕ → Type 0 = λ x. May (take i q) x in
      subst F (sym (take-append-le i q (e ∷ []) k)) (subst G (sym (get_or_append_left q (e ∷ []) 0 i l)) (g i l)))
      (λ (l : length q ≤ i).
      let s : length q ≡ i = omega arith in
      let F : List ℕ → Type 0 = λ x. May x (get_or (q ++ e ∷ []) i 0) in
      let G : ℕ → Type 0 = λ x. May q x in
      subst F (sym (take_at q (e ∷ []) i s)) (subst G (sym (get_or_at q e [] 0 i s)) m))
      (cases_lt i (length q))

  -- the least entry from `f` on is found
  pub onto : (q r : List ℕ) (f e : ℕ) → ((e' : ℕ) → May q e' → f ≤ e' → e ≤ e') → Grown May r → Upto (q ++ f ∷ []) r → Upto (q ++ e ∷ []) r
  onto q r f e least g u =
      ⊎_elim
      (λ (s : (e : ℕ) × (t : List ℕ) × (r ≡ q ++ e ∷ t) × (f ≤ e)).
      let G : List ℕ → Type 0 = λ x. Grown May x in
      let F : List ℕ → Type 0 = λ x. Upto (q ++ e ∷ []) x in
      let m = grown_at q s.1 s.0 (subst G s.2 g) in
      subst F (sym s.2) (upto_raise q s.1 e s.0 (least s.0 m s.3)))
      (λ p. past_upto q (e ∷ []) r p)
      (parts q r f u)

  -- there is none
  pub done : (q r : List ℕ) (f : ℕ) → ((e : ℕ) → May q e → e < f) → Grown May r → Upto (q ++ f ∷ []) r → Past q r
  done q r f none g u =
      ⊎_elim
      (λ (s : (e : ℕ) × (t : List ℕ) × (r ≡ q ++ e ∷ t) × (f ≤ e)).
      let G : List ℕ → Type 0 = λ x. Grown May x in
      let m = none s.0 (grown_at q s.1 s.0 (subst G s.2 g)) in
      let k = s.3 in
      absurd (omega arith))
      (λ p. p)
      (parts q r f u)
