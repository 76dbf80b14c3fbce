-- The laws of a plan hold of a sheet whatever its records name, since a connection is mutual by definition.
use Rattle.std.specs.Prelude.{◌≡◌, ℕ, ◌<◌, ◌≤◌, Bool, true, false, cond, not, ◌&&◌, List, Some, None, Option, ◌==◌, ◌≢◌, nat_lt, refl}
use Rattle.std.proofs.Common.{sym, subst, ◌∙◌, arith}
use Rattle.std.proofs.Math.Path.{ap}
use Rattle.std.proofs.lemmas.Bool.{ltb-true, eqb-false, ne_eqb, not-true, not_from_false, cond-true}
use Rattle.plan.specs.declared.parts.Direction.{Direction}
use Rattle.plan.specs.declared.parts.Direction.TheVariants.{East, West}
use Rattle.plan.specs.declared.parts.Kind.TheVariants.{Straight}
use Rattle.plan.specs.declared.parts.Port.{Port}
use Rattle.plan.specs.Layout.{Layout, Lawful, opposite, is_switch, is_port, faces, same_direction, opposed, leads_to}
use Rattle.plan.proofs.Ports.{both, and, leads, led}
use Rattle.sheet.specs.declared.component.Component.{Component}
use Rattle.sheet.specs.Records.{at, components_of, named, section_stands}
use Rattle.sheet.specs.Connections.{may_connect, far_to, far_in, layout_of}

turned : (a b : Direction) → not (same_direction a b) ≡ true → b ≡ opposite a
turned East East h = cc
turned East West h = refl
turned West East h = refl
turned West West h = cc

turned_back : (a b : Direction) → not (same_direction a b) ≡ true → not (same_direction b a) ≡ true
turned_back East East h = h
turned_back East West h = refl
turned_back West East h = refl
turned_back West West h = h

pub opposed_parts : (l : Layout) (p q : Port) → opposed l p q ≡ true → (faces l q ≡ opposite (faces l p)) × (p.component ≢ q.component)
opposed_parts l p q h =
    let s = both (not (same_direction (faces l p) (faces l q))) (not (p.component == q.component)) h in
    (turned (faces l p) (faces l q) s.0, eqb-false p.component q.component (not-true _ s.1))

opposed_back : (l : Layout) (p q : Port) → opposed l p q ≡ true → opposed l q p ≡ true
opposed_back l p q h =
    let s = both (not (same_direction (faces l p) (faces l q))) (not (p.component == q.component)) h in
    let a = (opposed_parts l p q h).1 in
    and _ _ (turned_back (faces l p) (faces l q) s.0) (not_from_false _ (ne_eqb q.component p.component (λ e. a (sym e))))

pub may_parts : (l : Layout) (p q : Port) → may_connect l p q ≡ true → (is_port l p ≡ true) × (is_port l q ≡ true) × (opposed l p q ≡ true)
unfolding may_connect
may_parts l p q h =
    let s = both (is_port l p && is_port l q) (opposed l p q) h in
    let t = both (is_port l p) (is_port l q) s.0 in
    (t.0, t.1, s.1)

pub may_from : (l : Layout) (p q : Port) → is_port l p ≡ true → is_port l q ≡ true → opposed l p q ≡ true → may_connect l p q ≡ true
unfolding may_connect
may_from l p q a b o = and (is_port l p && is_port l q) (opposed l p q) (and (is_port l p) (is_port l q) a b) o

pub may_back : (l : Layout) (p q : Port) → may_connect l p q ≡ true → may_connect l q p ≡ true
may_back l p q h = let m = may_parts l p q h in may_from l q p m.1 m.0 (opposed_back l p q m.2)

some_of : (b : Bool) (p q : Port) → cond b (Some p) None ≡ Some q → (b ≡ true) × (p ≡ q)
some_of true p q h = (refl, cc)
some_of false p q h = (cc, cc)

module _ (l : Layout) (names : Port → Option Port) where
  inside : (p q : Port) (o : Option Port) → far_to l names p o ≡ Some q → (o ≡ Some q) × (names q ≡ Some p) × (may_connect l p q ≡ true)
  inside p q None h = (cc, cc, cc)
  inside p q (Some e) h =
      let s = some_of (may_connect l p e && leads_to (names e) p) e q h in
      let t = both (may_connect l p e) (leads_to (names e) p) s.0 in
      (ap Some s.1, subst (λ (x : Port). names x ≡ Some p) s.1 (leads (names e) p t.1), subst (λ (x : Port). may_connect l p x ≡ true) s.1 t.0)

  -- a far port says that the two name one another and may be connected, and the reverse
  pub far_says : (p q : Port) → far_in l names p ≡ Some q → (names p ≡ Some q) × (names q ≡ Some p) × (may_connect l p q ≡ true)
  unfolding far_in
  far_says p q h = inside p q (names p) h

  pub says_far : (p q : Port) → names p ≡ Some q → names q ≡ Some p → may_connect l p q ≡ true → far_in l names p ≡ Some q
  unfolding far_in
  says_far p q e b m =
      ap (far_to l names p) e
      ∙ cond-true (may_connect l p q && leads_to (names q) p) (Some q) None (and (may_connect l p q) (leads_to (names q) p) m (led (names q) p b))

  pub far_back : (p q : Port) → far_in l names p ≡ Some q → far_in l names q ≡ Some p
  far_back p q h = let s = far_says p q h in says_far q p s.1 s.0 (may_back l p q s.2)

below_stands : (b : Bool) (x s : ℕ) → b ≡ true → cond b (nat_lt x s) true ≡ true → s ≤ 512 → x < 512
below_stands true x s e h k = let t = ltb-true x s h in omega arith
below_stands false x s e h k = let z : ◌≡◌ {A = ℕ} 0 1 = cc in absurd (omega arith)

section_below : (t : Bool) (r : Component) (s : ℕ) → is_switch (cond t r.kind Straight) ≡ true → section_stands r s ≡ true → s ≤ 512 → cond t r.section 0 < 512
section_below true r s e h k = below_stands (is_switch r.kind) r.section s e h k
section_below false r s e h k = omega arith

pub lawful_drawn : (rs : List Component) (n s : ℕ) → n ≤ 512 → s ≤ 512 → ((k : ℕ) → k < n → section_stands (at rs k) s ≡ true) → Lawful (layout_of rs n)
lawful_drawn rs n s few small known =
    let l = components_of rs n in
    let nm = named rs in
    record {
      few = few;
      sections = λ c h e. section_below (nat_lt c n) (at rs c) s e (known c h) small;
      ports = λ p q h. (may_parts l p q (far_says l nm p q h).2).0;
      both_ways = far_back l nm;
      opposed = λ p q h. (opposed_parts l p q (may_parts l p q (far_says l nm p q h).2).2).0;
      apart = λ p q h. (opposed_parts l p q (may_parts l p q (far_says l nm p q h).2).2).1;
    }
