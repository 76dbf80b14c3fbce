-- Where the flood reaches no signal of the direction, no route goes on.
use Rattle.std.proofs.Common.{◌≡◌, ℕ, zero, suc, ◌+◌, ◌-◌, ◌/◌, ◌<◌, ◌≤◌, List, ◌∷◌, ◌++◌, length, get_or, sym, refl, ap, ◌∙◌, subst, ⊎_elim, arith, length-append}
use Rattle.std.proofs.lemmas.List.{get_or_append_left}
use Rattle.std.proofs.lemmas.Bool.{cases_lt}
use Rattle.plan.specs.declared.parts.Direction.{Direction}
use Rattle.plan.specs.declared.parts.Kind.TheVariants.{Signal}
use Rattle.plan.specs.Layout.{Layout, Lawful, direction_of}
use Rattle.sets.specs.declared.set.ComponentSet.{ComponentSet}
use Rattle.sets.specs.Members.{has}
use Rattle.route.specs.Components.{times}
use Rattle.route.specs.Growth.{New}
use Rattle.route.specs.Paths.{Follows, heading, last_of, Route}
use Rattle.route.proofs.Counts.{some_old}
use Rattle.route.proofs.Ending.{begun_below}
use Rattle.route.proofs.Places.{path_begun}
use Rattle.search.specs.declared.flood.Flood.{Flood}
use Rattle.search.specs.Reach.{Covers, Marked, Settled, Past, Barren}
use Rattle.search.proofs.Floods.{covers_more}

module _ (l : Layout) (w : Lawful l) (q : List ℕ) (d : Direction) (seen : ComponentSet) (some : 0 < length q) (way : heading l q ≡ d)
    (begun : Covers l d (last_of q) seen)
    (past : (c : ℕ) → has seen c ≡ 1 → times c q ≡ 0 → Past l d seen c)
    (e : ℕ) (t : List ℕ) (route : Route l (q ++ e ∷ t)) where
  abbrev r : List ℕ
  r = q ++ e ∷ t

  -- the route goes the path's direction
  heading_is : heading l r ≡ d
  heading_is = ap (λ x. direction_of (l.kind (x / 4))) (get_or_append_left q (e ∷ t) 0 0 some) ∙ way

  goes_on : (i : ℕ) → i + 1 < length r → Follows l d (get_or r i 0) (get_or r (i + 1) 0)
  goes_on i h = let F : Direction → Type 0 = λ x. Follows l x (get_or r i 0) (get_or r (i + 1) 0) in subst F heading_is (route.0.follows i h)

  -- what comes below the path is not on it
  below : (i : ℕ) → length q ≤ i → i < length r → times (get_or r i 0 / 4) q ≡ 0
  below i h k =
      let new : New q (get_or r i 0) = λ j b s.
      let z : j < i = omega arith in
      route.0.apart j i z k (ap (λ x. x / 4) (get_or_append_left q (e ∷ t) 0 j b) ∙ s) in
      ⊎_elim (λ (x : 0 < times (get_or r i 0 / 4) q). absurd (some_old q (get_or r i 0) x new)) (λ (x : times (get_or r i 0 / 4) q ≤ 0). omega arith) (cases_lt 0 (times (get_or r i 0 / 4) q))

  passed : (i : ℕ) → length q ≤ i → i < length r → has seen (get_or r i 0 / 4) ≡ 1 → Past l d seen (get_or r i 0 / 4)
  passed i h k s = past (get_or r i 0 / 4) s (below i h k)

  -- all that comes below the path was seen
  reached : (k : ℕ) → length q + k < length r → has seen (get_or r (length q + k) 0 / 4) ≡ 1
  reached zero h =
      let n = length-append q (e ∷ t) in
      let S : ℕ → Type 0 = λ x. has seen (get_or r x 0 / 4) ≡ 1 in
      let F : ℕ → Type 0 = λ x. Follows l d x (get_or r (length q - 1 + 1) 0) in
      let z : length q - 1 + 1 ≡ length q + 0 = omega arith in
      subst S z (begun _ (subst F (get_or_append_left q (e ∷ t) 0 (length q - 1) (omega arith)) (goes_on (length q - 1) (omega arith))))
  reached (suc k) h =
      let S : ℕ → Type 0 = λ x. has seen (get_or r x 0 / 4) ≡ 1 in
      let z : length q + k + 1 ≡ length q + suc k = omega arith in
      let j : length q + k < length r = omega arith in
      subst S z ((passed (length q + k) (omega arith) j (reached k j)).1 (get_or r (length q + k) 0) refl _ (goes_on (length q + k) (omega arith)))

  dead : ⊥
  dead =
      let n = length-append q (e ∷ t) in
      let m = length r - 1 in
      let h : m < length r = omega arith in
      let z : length q + (m - length q) ≡ m = omega arith in
      let S : ℕ → Type 0 = λ x. has seen (get_or r x 0 / 4) ≡ 1 in
      let s = subst S z (reached (m - length q) (omega arith)) in
      (passed m (omega arith) h s).0 (begun_below l w r (path_begun l r route.0) m h) (route.1.1 ∙ ap Signal heading_is)

-- The same, of the flood that began with the path's components, where `s` is what a slice showed of the path.
pub barren : (l : Layout) → Lawful l → (q s : List ℕ) → s ≡ q → (d : Direction) (f g h : Flood) → 0 < length s → l.kind (get_or s 0 0 / 4) ≡ Signal d → ((c : ℕ) → has f.seen c ≡ times c q) → (last : ℕ) → last ≡ last_of s → Marked l d last f g → Settled l d g h → ((c : ℕ) → has h.waiting c ≡ 0) → Barren l q
barren l w q s shown d f g h some way on last at_end from_last settled none e t route =
    let M : ℕ → Type 0 = λ x. Marked l d x f g in
    let marked = subst M at_end from_last in
    let S : List ℕ → Type 0 = λ x. Route l (x ++ e ∷ t) in
    dead l w s d h.seen some (ap direction_of way)
    (covers_more l d (last_of s) g.seen h.seen settled.keeps marked.covers)
    (λ c o z.
    ⊎_elim
    (λ (b : (has g.seen c ≡ 1) × (has g.waiting c ≡ 0)).
    let free : has f.seen c ≡ 0 = on c ∙ ap (times c) (sym shown) ∙ z in
    let v = marked.new_wait c free b.0 in
    let u = b.1 in
    absurd (omega arith))
    (λ p. p)
    (settled.past c o (none c)))
    e t (subst S (sym shown) route)
