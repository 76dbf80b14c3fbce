-- One component more, with blank ports: every other component and every far port is as before.
use Rattle.std.proofs.Common.{◌≡◌, ℕ, ◌+◌, ◌<◌, true, false, cond, not, ◌&&◌, eqb, ltb, ◌≢◌, List, length, set, None, sym, refl, ap, ◌∙◌, ⊎_elim, arith, get_or-set_other, get_or-set_same}
use Rattle.std.proofs.lemmas.Bool.{cases_eq, eq-eqb, ne_eqb, cond-true, cond-false}
use Rattle.plan.specs.declared.parts.Direction.TheVariants.{East}
use Rattle.plan.specs.declared.parts.Kind.{Kind}
use Rattle.plan.specs.declared.parts.Kind.TheVariants.{Signal, Straight}
use Rattle.plan.specs.declared.parts.Side.{Side}
use Rattle.plan.specs.declared.parts.Port.{Port}
use Rattle.plan.specs.Layout.{is_port, has_side, side_faces, same_direction, port}
use Rattle.plan.proofs.Ports.{port_below}
use Rattle.sheet.specs.declared.component.Component.{Component}
use Rattle.sheet.specs.Records.{blank_component, at, named_at, named, kinds, components_of}
use Rattle.sheet.specs.Connections.{may_connect, far_in, layout_of}
use Rattle.sheet.specs.Laws.{may_parts, far_says, says_far}
use Rattle.sheet.specs.Adding.{empty_layout, with_component}
use Rattle.sheet.proofs.Puts.{ext, blank_names}
use Rattle.sheet.proofs.Changes.{never_some, far_none, far_is}

module _ (rs : List Component) (n : ℕ) (k : Kind) (s : ℕ) (h : n < length rs) where
  abbrev after : List Component
  after = set rs n (blank_component k s)

  here : at after n ≡ blank_component k s
  here = get_or-set_same rs n (blank_component k s) (blank_component (Signal East) 0) h

  there : (c : ℕ) → c ≢ n → at after c ≡ at rs c
  there c q = get_or-set_other rs n c (blank_component k s) (blank_component (Signal East) 0) q

  -- a field of the components, with a value for those that do not stand
  field_rest : {T : Type 0} (f : Component → T) (d : T) (c : ℕ) → c ≢ n → cond (ltb c (n + 1)) (f (at after c)) d ≡ cond (ltb c n) (f (at rs c)) d
  field_rest f d c q =
      let e : ltb c (n + 1) ≡ ltb c n = grind arith in
      ap (λ b. cond b (f (at after c)) d) e ∙ ap (λ r. cond (ltb c n) (f r) d) (there c q)

  field_here : {T : Type 0} (f : Component → T) (d : T) (c : ℕ) → c ≡ n → cond (ltb c (n + 1)) (f (at after c)) d ≡ f (blank_component k s)
  field_here f d c q =
      let e : ltb c (n + 1) ≡ true = grind arith in
      ap (λ b. cond b (f (at after c)) d) e ∙ ap (λ m. f (at after m)) q ∙ ap f here

  field_grown : {T : Type 0} (f : Component → T) (d : T) (c : ℕ) → cond (ltb c (n + 1)) (f (at after c)) d ≡ cond (eqb c n) (f (blank_component k s)) (cond (ltb c n) (f (at rs c)) d)
  field_grown f d c =
      ⊎_elim
      (λ q. field_here f d c q ∙ sym (cond-true _ _ _ (eq-eqb c n q)))
      (λ q. field_rest f d c q ∙ sym (cond-false _ _ _ (ne_eqb c n q)))
      (cases_eq c n)

  kind_rest : (c : ℕ) → c ≢ n → kinds after (n + 1) c ≡ kinds rs n c
  kind_rest = field_rest (λ r. r.kind) Straight

  names_new : (p : Port) → p.component ≡ n → named after p ≡ None
  unfolding named
  names_new p e = ap (λ m. named_at (at after m) p.side) e ∙ ap (λ r. named_at r p.side) here ∙ blank_names k s p.side

  names_rest : (p : Port) → p.component ≢ n → named after p ≡ named rs p
  unfolding named
  names_rest p e = ap (λ r. named_at r p.side) (there p.component e)

  port_grown : (p : Port) → p.component ≢ n → is_port (components_of after (n + 1)) p ≡ is_port (components_of rs n) p
  port_grown p q =
      let c = p.component in
      let e : ltb c (n + 1) ≡ ltb c n = grind arith in
      λ i. e i && has_side (kind_rest p.component q i) p.side

  may_grown : (p q : Port) → p.component ≢ n → q.component ≢ n → may_connect (components_of after (n + 1)) p q ≡ may_connect (components_of rs n) p q
  unfolding may_connect
  may_grown p q a b = λ i.
      (port_grown p a i && port_grown q b i)
      && (not (same_direction (side_faces (kind_rest p.component a i) p.side) (side_faces (kind_rest q.component b i) q.side)) && not (eqb p.component q.component))

  old : (p : Port) → is_port (components_of rs n) p ≡ true → p.component ≢ n
  old p e = let w = port_below (components_of rs n) p e in λ t. omega arith

  far_grown : (p : Port) → far_in (components_of after (n + 1)) (named after) p ≡ far_in (components_of rs n) (named rs) p
  far_grown p =
      let l = components_of rs n in
      let l' = components_of after (n + 1) in
      far_is l' (named after) p (far_in l (named rs) p)
      (λ q t back may.
      let hp : p.component ≢ n = λ e. never_some (named after p) q (names_new p e) t in
      let hq : q.component ≢ n = λ e. never_some (named after q) p (names_new q e) back in
      says_far l (named rs) p q (sym (names_rest p hp) ∙ t) (sym (names_rest q hq) ∙ back) (sym (may_grown p q hp hq) ∙ may))
      (λ q t.
      let e = far_says l (named rs) p q t in
      let m = may_parts l p q e.2 in
      let hp = old p m.0 in
      let hq = old q m.1 in
      says_far l' (named after) p q (names_rest p hp ∙ e.0) (names_rest q hq ∙ e.1) (may_grown p q hp hq ∙ e.2))

  pub added_blank : (d : Side) → (layout_of after (n + 1)).far (port n d) ≡ None
  added_blank d = far_none (components_of after (n + 1)) (named after) (port n d) (λ q e m. never_some _ q (names_new (port n d) refl) e)

  pub added_layout : layout_of after (n + 1) ≡ with_component (layout_of rs n) k s
  added_layout = λ i. record {
    count = n + 1;
    kind = ext _ _ (field_grown (λ r. r.kind) Straight) i;
    section = ext _ _ (field_grown (λ r. r.section) 0) i;
    far = ext _ _ far_grown i;
  }

-- the sheet without components
pub empty_drawn : (rs : List Component) → layout_of rs 0 ≡ empty_layout
empty_drawn rs = λ i. record {
  count = 0;
  kind = ext _ _ (λ c. none (at rs c).kind Straight c) i;
  section = ext _ _ (λ c. none (at rs c).section 0 c) i;
  far = ext _ _ blank i;
}
  where
    none : {T : Type 0} (x d : T) (c : ℕ) → cond (ltb c 0) x d ≡ d
    none x d c = let e : ltb c 0 ≡ false = grind arith in cond-false _ x d e

    blank : (p : Port) → (layout_of rs 0).far p ≡ None
    blank p = far_none (components_of rs 0) (named rs) p (λ q e m. let t = port_below (components_of rs 0) p (may_parts _ p q m).0 in omega arith)
