-- Walking along a row.
use Rattle.std.proofs.Common.{◌≡◌, ℕ, suc, ◌+◌, ◌-◌, ◌/◌, ◌<◌, List, ◌∷◌, length, get_or, take, sym, ap, ◌∙◌, subst, arith}
use Rattle.std.proofs.lemmas.List.{take_more}
use Rattle.plan.specs.declared.parts.Direction.{Direction}
use Rattle.plan.specs.declared.parts.Kind.TheVariants.{Signal}
use Rattle.plan.specs.Layout.{Layout, Lawful, direction_of}
use Rattle.sets.specs.declared.set.ComponentSet.{ComponentSet}
use Rattle.sets.specs.Members.{has, joined}
use Rattle.route.specs.Paths.{Follows}
use Rattle.route.specs.Growth.{Next, May, Begun}
use Rattle.route.proofs.Ending.{next_below}
use Rattle.route.proofs.Growth.{grown_push}
use Rattle.route.proofs.Places.{next_at}
use Rattle.judging.proofs.Gathered.{Gathers, gathers_more}

-- the first `i` entries have grown to a path, and the set holds their components
abbrev pub Kept : Layout → List ℕ → ℕ → ComponentSet → Type 0
Kept l es i seen = Begun l (take i es) × Gathers seen (take i es)

module _ (l : Layout) (w : Lawful l) (es : List ℕ) where
  pub kept_more : (i : ℕ) (s s' : ComponentSet) → Kept l es i s → i < length es → May l (take i es) (get_or es i 0) → ((c : ℕ) → has s' c ≡ joined s (get_or es i 0 / 4) c) → Kept l es (i + 1) s'
  kept_more i s s' k h m inserted =
      let B : List ℕ → Type 0 = λ q. Begun l q in
      let below = next_below l w (take i es) (get_or es i 0) m.0 in
      let few = w.few in (
        subst B (sym (take_more es i 0 h)) (grown_push (May l) (take i es) (get_or es i 0) k.0 m),
        gathers_more s s' es i k.1 h (omega arith) inserted,
      )

  module _ (d : Direction) (way : l.kind (get_or es 0 0 / 4) ≡ Signal d) (i : ℕ) (h : i + 1 < length es) (last e : ℕ) (here : last ≡ get_or es i 0) (there : e ≡ get_or es (i + 1) 0) where
    -- the direction of travel is the row's
    step : Next l (take (i + 1) es) (get_or es (i + 1) 0) ≡ Follows l d last e
    step =
        let q : i + 1 - 1 ≡ i = omega arith in
        next_at l es (i + 1) (omega arith) h
        ∙ ap (λ (x : Direction). Follows l x (get_or es (i + 1 - 1) 0) (get_or es (i + 1) 0)) (ap direction_of way)
        ∙ (λ k. Follows l d ((ap (λ n. get_or es n 0) q ∙ sym here) k) (sym there k))

    pub step_in : Follows l d last e → Next l (take (i + 1) es) (get_or es (i + 1) 0)
    step_in f = let T : Type 0 → Type 0 = λ X. X in subst T (sym step) f

    pub step_out : Next l (take (i + 1) es) (get_or es (i + 1) 0) → Follows l d last e
    step_out m = let T : Type 0 → Type 0 = λ X. X in subst T step m

-- an entry behind the first
pub behind : (es r : List ℕ) (f i : ℕ) → es ≡ f ∷ r → get_or r i 0 ≡ get_or es (i + 1) 0
behind es r f i e =
    let q : suc i ≡ i + 1 = omega arith in
    ap (λ k. get_or (f ∷ r) k 0) q ∙ sym (ap (λ x. get_or x (i + 1) 0) e)
