-- The flood, component by component.
use Rattle.std.proofs.Common.{◌≡◌, ℕ, ◌+◌, ◌*◌, ◌/◌, ◌<◌, ◌≤◌, ◌⊎◌, sym, refl, ap, ◌∙◌, subst, inl, inr, ⊎_elim, arith}
use Rattle.std.proofs.lemmas.Bool.{cases_eq, cases_lt}
use Rattle.plan.specs.declared.parts.Direction.{Direction}
use Rattle.plan.specs.declared.parts.Kind.TheVariants.{Signal}
use Rattle.plan.specs.Layout.{Layout}
use Rattle.sets.specs.declared.set.ComponentSet.{ComponentSet}
use Rattle.sets.specs.Members.{has, joined, left, size}
use Rattle.sets.proofs.Membership.{has_low, joined_here, joined_else, left_else}
use Rattle.sets.proofs.Sizes.{size_most, size_joined, size_left}
use Rattle.route.specs.declared.steps.Range.{Range}
use Rattle.route.specs.Paths.{Follows}
use Rattle.route.specs.Steps.{Exactly}
use Rattle.route.proofs.Following.{follows_one, follows_either}
use Rattle.search.specs.declared.flood.Flood.{Flood}
use Rattle.search.specs.Reach.{Covers, Marked, GoneOn, Past, Settled}

pub covers_more : (l : Layout) (d : Direction) (e : ℕ) (s s' : ComponentSet) → ((c : ℕ) → has s c ≤ has s' c) → Covers l d e s → Covers l d e s'
covers_more l d e s s' keeps covers e' h =
    let a = covers e' h in
    let b = keeps (e' / 4) in
    let low = has_low s' (e' / 4) in
    omega arith

zero_or_one : (n : ℕ) → n ≤ 1 → (n ≡ 0) ⊎ (n ≡ 1)
zero_or_one n h = ⊎_elim (λ (l : n < 1). inl (omega arith)) (λ (l : 1 ≤ n). inr (omega arith)) (cases_lt n 1)

module _ (l : Layout) (d : Direction) (e : ℕ) (r : Range) (exact : Exactly (Follows l d e) r) (f : Flood) where
  abbrev here : ℕ
  here = r.low / 4

  covers_here : (s : ComponentSet) → has s here ≡ 1 → Covers l d e s
  covers_here s h e' k = ap (has s) (follows_one l d e e' r.low k (exact.inside r.low (omega arith) exact.some)) ∙ h

  -- it was seen before
  pub marked_old : has f.seen here ≡ 1 → Marked l d e f f
  marked_old h = record {
    covers = covers_here f.seen h;
    keeps = λ c. omega arith;
    waits = λ c. omega arith;
    new_wait = λ c z o. absurd (omega arith);
    less = omega arith;
  }

  module _ (f' : Flood) (low : r.high < 2048) (out : has f.seen here ≡ 0)
      (seen : (c : ℕ) → has f'.seen c ≡ joined f.seen here c) (waiting : (c : ℕ) → has f'.waiting c ≡ joined f.waiting here c) where
    small : here < 512
    small = let some = exact.some in omega arith

    -- a set that took in the component has what it had
    grows : (s s' : ComponentSet) → ((c : ℕ) → has s' c ≡ joined s here c) → (c : ℕ) → has s c ≤ has s' c
    grows s s' inserted c =
        let i = inserted c in
        let b = has_low s c in
        ⊎_elim
        (λ (h : c ≡ here). let j = joined_here s here c small h in omega arith)
        (λ (h : c ≡ here → ⊥). let j = joined_else s here c small h in omega arith)
        (cases_eq c here)

    pub marked_new : Marked l d e f f'
    marked_new = record {
      covers = covers_here f'.seen (seen here ∙ joined_here f.seen here here small refl);
      keeps = grows f.seen f'.seen seen;
      waits = grows f.waiting f'.waiting waiting;
      new_wait = λ c z o.
          ⊎_elim
          (λ (h : c ≡ here). waiting c ∙ joined_here f.waiting here c small h)
          (λ (h : c ≡ here → ⊥). let j = seen c ∙ joined_else f.seen here c small h in absurd (omega arith))
          (cases_eq c here);
      less =
          let a = size_joined f.seen f'.seen here small out seen in
          let w = f.within here in
          let b = size_joined f.waiting f'.waiting here small (omega arith) waiting in
          let m = size_most f'.seen in
          omega arith;
    }

-- both ways out of a component
module _ (l : Layout) (d : Direction) (k : ℕ) (f g h i : Flood) (low : k < 512)
    (still : g.seen ≡ f.seen) (taken : (c : ℕ) → has g.waiting c ≡ left f.waiting k c)
    (one : Marked l d (4 * k + 1) g h) (two : Marked l d (4 * k + 2) h i) where
  same : (c : ℕ) → has g.seen c ≡ has f.seen c
  same c = ap (λ x. has x c) still

  covered : (e : ℕ) → e / 4 ≡ k → Covers l d e i.seen
  covered e c e' m =
      let F : ℕ → ℕ → Type 0 = λ x z. Follows l d (4 * x + z) e' in
      ⊎_elim
      (λ (a : Follows l d (4 * (e / 4) + 1) e'). covers_more l d (4 * k + 1) h.seen i.seen two.keeps one.covers e' (subst (λ (x : ℕ). F x 1) c a))
      (λ (b : Follows l d (4 * (e / 4) + 2) e'). two.covers e' (subst (λ (x : ℕ). F x 2) c b))
      (follows_either l d e e' m)

  pub gone_on : GoneOn l d k f i
  gone_on = record {
    keeps = λ c. let a = one.keeps c in let b = two.keeps c in let e = same c in omega arith;
    waits = λ c n. let a = taken c ∙ left_else f.waiting k c n in let b = one.waits c in let e = two.waits c in omega arith;
    new_wait = λ c z o.
        let a = same c in
        ⊎_elim
        (λ (y : has h.seen c ≡ 0). two.new_wait c y o)
        (λ (y : has h.seen c ≡ 1). let w = one.new_wait c (omega arith) y in let v = two.waits c in let b = has_low i.waiting c in omega arith)
        (zero_or_one (has h.seen c) (has_low h.seen c));
    less = λ s w.
        let a = size_left f.waiting g.waiting k low w taken in
        let b = one.less in
        let e = two.less in
        let z = ap size still in
        omega arith;
    covers = λ s. covered;
  }

pub settled_start : (l : Layout) (d : Direction) (f : Flood) → Settled l d f f
settled_start l d f = record { keeps = λ c. omega arith; past = λ c s w. inl (s, w) }

pub settled_more : (l : Layout) (d : Direction) (k : ℕ) (f g h : Flood) → Settled l d f g → GoneOn l d k g h → k < 512 → (k < l.count → l.kind k ≡ Signal d → ⊥) → Settled l d f h
settled_more l d k f g h settled gone low none = record {
  keeps = λ c. let a = settled.keeps c in let b = gone.keeps c in omega arith;
  past = λ c s w.
      let P : ℕ → Type 0 = λ x. Past l d h.seen x in
      ⊎_elim
      (λ (e : c ≡ k). inr (subst P (sym e) (none, gone.covers low)))
      (λ (n : c ≡ k → ⊥).
      ⊎_elim
      (λ (z : has g.seen c ≡ 0). let v = gone.new_wait c z s in absurd (omega arith))
      (λ (o : has g.seen c ≡ 1).
      let v = gone.waits c n in
      ⊎_elim
      (λ x. inl x)
      (λ (x : Past l d g.seen c). inr (x.0, λ e q. covers_more l d e g.seen h.seen gone.keeps (x.1 e q)))
      (settled.past c o (omega arith)))
      (zero_or_one (has g.seen c) (has_low g.seen c)))
      (cases_eq c k);
}
