-- The first records alone say the same as all of them.
use Rattle.std.proofs.Common.{◌≡◌, ℕ, ◌<◌, ◌≤◌, ltb, cond, List, length, take, None, sym, ap, ◌∙◌, ⊎_elim}
use Rattle.std.proofs.lemmas.List.{get_or-take, length-take-le}
use Rattle.std.proofs.lemmas.Bool.{cases_lt, cond-false, le-ltb}
use Rattle.plan.specs.declared.parts.Direction.TheVariants.{East}
use Rattle.plan.specs.declared.parts.Kind.TheVariants.{Signal, Straight}
use Rattle.plan.specs.declared.parts.Port.{Port}
use Rattle.plan.proofs.Ports.{port_below}
use Rattle.sheet.specs.declared.component.Component.{Component}
use Rattle.sheet.specs.Records.{at, blank_component, named_at, named, components_of}
use Rattle.sheet.specs.Connections.{far_in, drawn, layout_of}
use Rattle.sheet.specs.Laws.{may_parts, far_says, says_far}
use Rattle.sheet.proofs.Puts.{ext}
use Rattle.sheet.proofs.Changes.{drawn_eq, far_is}

module _ (rs : List Component) (n : ℕ) (fit : n ≤ length rs) where
  here : (c : ℕ) → c < n → at (take n rs) c ≡ at rs c
  here c h = get_or-take n rs c (blank_component (Signal East) 0) h

  field : {T : Type 0} (f : Component → T) (d : T) (c : ℕ) → cond (ltb c n) (f (at (take n rs) c)) d ≡ cond (ltb c n) (f (at rs c)) d
  field f d c =
      ⊎_elim
      (λ h. ap (λ r. cond (ltb c n) (f r) d) (here c h))
      (λ h. cond-false _ _ _ (le-ltb c n h) ∙ sym (cond-false _ _ _ (le-ltb c n h)))
      (cases_lt c n)

  components : components_of (take n rs) n ≡ components_of rs n
  components = λ i. record {
    count = n;
    kind = ext _ _ (field (λ r. r.kind) Straight) i;
    section = ext _ _ (field (λ r. r.section) 0) i;
    far = λ p. None;
  }

  names : (p : Port) → p.component < n → named (take n rs) p ≡ named rs p
  unfolding named
  names p h = ap (λ r. named_at r p.side) (here p.component h)

  fars : (p : Port) → far_in (components_of rs n) (named (take n rs)) p ≡ far_in (components_of rs n) (named rs) p
  fars p =
      let l = components_of rs n in
      let front = named (take n rs) in
      far_is l front p (far_in l (named rs) p)
      (λ q e back may.
      let m = may_parts l p q may in
      says_far l (named rs) p q (sym (names p (port_below l p m.0)) ∙ e) (sym (names q (port_below l q m.1)) ∙ back) may)
      (λ q e.
      let s = far_says l (named rs) p q e in
      let m = may_parts l p q s.2 in
      says_far l front p q (names p (port_below l p m.0) ∙ s.0) (names q (port_below l q m.1) ∙ s.1) s.2)

  pub drawn_front : drawn (take n rs) ≡ layout_of rs n
  drawn_front =
      ap (layout_of (take n rs)) (length-take-le n rs fit)
      ∙ drawn_eq _ _ _ _ components (ap (λ l. far_in l (named (take n rs))) components ∙ ext _ _ fars)
