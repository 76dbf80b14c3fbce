-- Which entry may come next on a path.
use Rattle.std.proofs.Common.{ℕ, ◌/◌, ◌<◌, ◌≤◌, List, [], ◌∷◌, ◌++◌, length, Some, None, ◌∙◌, arith}
use Rattle.std.proofs.lemmas.List.{length_push}
use Rattle.plan.specs.Layout.{Layout, Lawful}
use Rattle.route.specs.Paths.{heading, last_of}
use Rattle.route.specs.Growth.{New, Next, May, Begun}
use Rattle.route.proofs.Ending.{next_below, begun_below}
use Rattle.route.proofs.Following.{follows_one}
use Rattle.route.proofs.Growth.{grown_push}
use Rattle.search.specs.Found.{Least}
use Rattle.search.proofs.Pigeons.{grown_short}

-- all entries that may come next are of one component, unless they start a path
new_alike : (l : Layout) (q : List ℕ) (e e' : ℕ) → Next l q e → Next l q e' → New q e' → New q e
new_alike l [] e e' h h' n k b i = omega arith
new_alike l (s ∷ q) e e' h h' n k b i = n k b (i ∙ follows_one l (heading l (s ∷ q)) (last_of (s ∷ q)) e e' h h')

module _ (l : Layout) (w : Lawful l) where
  -- no component comes twice, so there are at most 512
  pub begun_short : (q : List ℕ) → Begun l q → length q ≤ 512
  begun_short q g =
      let few = w.few in
      grown_short (May l) (λ e. e / 4) 512 q (λ i h. let b = begun_below l w q g i h in omega arith) (λ p e m. m.1) g

  may_room : (q : List ℕ) (e : ℕ) → Begun l q → May l q e → length q < 512
  may_room q e g m =
      let n = begun_short (q ++ e ∷ []) (grown_push (May l) q e g m) in
      omega (arith, length_push q e)

  -- the least that comes next, if it is new
  pub least_may : (q : List ℕ) (f e : ℕ) → Least (Next l q) f (Some e) → New q e → Least (May l q) f (Some e)
  least_may q f e h n = ((h.0, n), h.1, λ e' m k. h.2 e' m.0 k)

  -- if it has no place, none may come next
  pub least_full : (q : List ℕ) (f e : ℕ) → Least (Next l q) f (Some e) → (New q e → e < 2048 → length q < 512 → ⊥) → Begun l q → Least (May l q) f None
  least_full q f e h out g e' m =
      let n = new_alike l q e e' h.0 m.0 m.1 in
      let b = next_below l w q e h.0 in
      let few = w.few in
      absurd (out n (omega arith) (may_room q e' g m))

  pub least_none : (q : List ℕ) (f : ℕ) → Least (Next l q) f None → Least (May l q) f None
  least_none q f h e m = h e m.0
