-- Whether a list of entries is a path or a route, as a test that computes.
use Rattle.std.proofs.Common.{◌≡◌, ℕ, ◌/◌, ◌%◌, Bool, true, false, cond, not, ◌&&◌, ◌||◌, eqb, ltb, leb, ◌⊎◌, List, [], ◌∷◌, ◌++◌, length, Some, None, Decides, Option, sym, refl, subst, append_assoc, append-nil, arith}
use Rattle.std.proofs.ByRecursion.{All-get_or, All-from_get_or, Decides-by_and}
use Rattle.std.proofs.lemmas.Bool.{false≢true, leb-true, le-leb, and_parts, and_from}
use Rattle.std.proofs.lemmas.Bool.Decides.{Decides-eqb, Decides-ltb, Decides-not, Decides-and, Decides-or, Decides-like}
use Rattle.plan.specs.declared.parts.Direction.{Direction}
use Rattle.plan.specs.declared.parts.Direction.TheVariants.{East, West}
use Rattle.plan.specs.declared.parts.Kind.{Kind}
use Rattle.plan.specs.declared.parts.Kind.TheVariants.{Signal, Switch, Straight}
use Rattle.plan.specs.declared.parts.Side.{Side}
use Rattle.plan.specs.declared.parts.Port.{Port}
use Rattle.plan.specs.Layout.{Layout, same_side}
use Rattle.route.specs.Paths.{same_direction, root, trailing, MayLie, Enters, exit_of, IsSignal, Starts, heading, last_of, Ends, Route}
use Rattle.route.specs.Growth.{New, Next, May, Begun}
use Rattle.route.proofs.Growth.{grown_at, grown_none, grown_push}
use Rattle.route.proofs.Places.{begun_path, path_begun}

never : {P : Type 0} → (P → ⊥) → Decides false P
never h = (λ t. absurd (false≢true t), λ p. absurd (h p))

abbrev lies : Kind → Side → ℕ → Bool
lies (Signal s) p z = eqb z 0
lies (Switch b) p z = cond (same_side p (root b)) (eqb z 1 || eqb z 2) (eqb z (trailing p))
lies Straight p z = eqb z 0

lies_switch : (at_root : Bool) (p : Side) (z : ℕ) → Decides (cond at_root (eqb z 1 || eqb z 2) (eqb z (trailing p))) (cond at_root ((z ≡ 1) ⊎ (z ≡ 2)) (z ≡ trailing p))
lies_switch true p z = Decides-or (eqb z 1) (eqb z 2) (Decides-eqb z 1) (Decides-eqb z 2)
lies_switch false p z = Decides-eqb z (trailing p)

decides_lies : (k : Kind) (p : Side) (z : ℕ) → Decides (lies k p z) (MayLie k p z)
decides_lies (Signal s) p z = Decides-eqb z 0
decides_lies (Switch b) p z = lies_switch (same_side p (root b)) p z
decides_lies Straight p z = Decides-eqb z 0

abbrev is_signal : Kind → Bool
is_signal (Signal s) = true
is_signal (Switch b) = false
is_signal Straight = false

decides_signal : (k : Kind) → Decides (is_signal k) (IsSignal k)
decides_signal (Signal s) = (λ h. tt, λ h. refl)
decides_signal (Switch b) = never (λ h. h)
decides_signal Straight = never (λ h. h)

abbrev guards : Kind → Direction → Bool
guards (Signal s) d = same_direction s d
guards (Switch b) d = false
guards Straight d = false

decides_guards : (k : Kind) (d : Direction) → Decides (guards k d) (k ≡ Signal d)
decides_guards (Signal East) East = (λ h. refl, λ h. refl)
decides_guards (Signal East) West = (λ h. cc, λ h. cc)
decides_guards (Signal West) East = (λ h. cc, λ h. cc)
decides_guards (Signal West) West = (λ h. refl, λ h. refl)
decides_guards (Switch b) d = (λ h. cc, λ h. cc)
decides_guards Straight d = (λ h. cc, λ h. cc)

abbrev is_new : ℕ → List ℕ → Bool
is_new e [] = true
is_new e (x ∷ q) = not (eqb (x / 4) (e / 4)) && is_new e q

decides_new : (q : List ℕ) (e : ℕ) → Decides (is_new e q) (New q e)
decides_new q e =
    let P : ℕ → Type 0 = λ x. x / 4 ≡ e / 4 → ⊥ in
    Decides-like (is_new e q) (λ a k h. All-get_or P q k 0 h a) (All-from_get_or P q 0)
    (Decides-by_and (λ x. not (eqb (x / 4) (e / 4))) P (is_new e) (λ x. Decides-not (eqb (x / 4) (e / 4)) (Decides-eqb (x / 4) (e / 4))) refl (λ _ _. refl) q)

module _ (l : Layout) where
  abbrev enters : Option Port → ℕ → Bool
  enters None e = false
  enters (Some p) e = eqb (e / 4) p.component && lies (l.kind p.component) p.side (e % 4)

  decides_enters : (o : Option Port) (e : ℕ) → Decides (enters o e) (Enters l o e)
  decides_enters None e = never (λ h. h)
  decides_enters (Some p) e =
      Decides-and (eqb (e / 4) p.component) (lies (l.kind p.component) p.side (e % 4))
      (Decides-eqb (e / 4) p.component)
      (decides_lies (l.kind p.component) p.side (e % 4))

  abbrev starts : ℕ → Bool
  starts e = eqb (e % 4) 0 && (ltb (e / 4) l.count && is_signal (l.kind (e / 4)))

  decides_starts : (e : ℕ) → Decides (starts e) (Starts l e)
  decides_starts e =
      Decides-like (starts e) (λ h. (h.0, h.1.0, h.1.1)) (λ h. (h.0, (h.1, h.2)))
      (Decides-and (eqb (e % 4) 0) (ltb (e / 4) l.count && is_signal (l.kind (e / 4)))
      (Decides-eqb (e % 4) 0)
      (Decides-and (ltb (e / 4) l.count) (is_signal (l.kind (e / 4))) (Decides-ltb (e / 4) l.count) (decides_signal (l.kind (e / 4)))))

  abbrev comes_next : List ℕ → ℕ → Bool
  comes_next [] e = starts e
  comes_next (s ∷ q) e = enters (l.far (exit_of l (heading l (s ∷ q)) (last_of (s ∷ q)))) e

  decides_next : (q : List ℕ) (e : ℕ) → Decides (comes_next q e) (Next l q e)
  decides_next [] e = decides_starts e
  decides_next (s ∷ q) e = decides_enters (l.far (exit_of l (heading l (s ∷ q)) (last_of (s ∷ q)))) e

  -- the entry may stand after the entries
  abbrev pub may : List ℕ → ℕ → Bool
  may q e = comes_next q e && is_new e q

  pub decides_may : (q : List ℕ) (e : ℕ) → Decides (may q e) (May l q e)
  decides_may q e = Decides-and (comes_next q e) (is_new e q) (decides_next q e) (decides_new q e)

  -- the entries go on from a path
  abbrev pub goes_on : List ℕ → List ℕ → Bool
  goes_on q [] = true
  goes_on q (e ∷ es) = may q e && goes_on (q ++ e ∷ []) es

  decides_goes : (q es : List ℕ) → Begun l q → Decides (goes_on q es) (Begun l (q ++ es))
  decides_goes q [] g = let B : List ℕ → Type 0 = λ x. Begun l x in (λ h. subst B (sym (append-nil q)) g, λ h. refl)
  decides_goes q (e ∷ es) g =
      let B : List ℕ → Type 0 = λ x. Begun l x in
      let more : May l q e → Begun l (q ++ e ∷ []) = grown_push (May l) q e g in (
        λ h.
            let p = and_parts (may q e) (goes_on (q ++ e ∷ []) es) h in
            let m = (decides_may q e).0 p.0 in
            subst B (append_assoc q (e ∷ []) es) ((decides_goes (q ++ e ∷ []) es (more m)).0 p.1),
        λ b.
            let m = grown_at (May l) q es e b in
            and_from (may q e) (goes_on (q ++ e ∷ []) es) ((decides_may q e).1 m)
            ((decides_goes (q ++ e ∷ []) es (more m)).1 (subst B (sym (append_assoc q (e ∷ []) es)) b)),
      )

  pub decides_begun : (es : List ℕ) → Decides (goes_on [] es) (Begun l es)
  decides_begun es = decides_goes [] es (grown_none (May l))

  abbrev pub ends : List ℕ → Bool
  ends es = leb 2 (length es) && guards (l.kind (last_of es / 4)) (heading l es)

  pub decides_ends : (es : List ℕ) → Decides (ends es) (Ends l es)
  decides_ends es =
      Decides-and (leb 2 (length es)) (guards (l.kind (last_of es / 4)) (heading l es))
      (leb-true 2 (length es), le-leb 2 (length es))
      (decides_guards (l.kind (last_of es / 4)) (heading l es))

  abbrev pub is_route : List ℕ → Bool
  is_route es = goes_on [] es && ends es

  pub decides_route : (es : List ℕ) → Decides (is_route es) (Route l es)
  decides_route es =
      Decides-like (is_route es)
      (λ h. let two = h.1.0 in (begun_path l es (omega arith) h.0, h.1))
      (λ h. (path_begun l es h.0, h.1))
      (Decides-and (goes_on [] es) (ends es) (decides_begun es) (decides_ends es))
