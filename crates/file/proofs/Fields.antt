-- What the second reading finds, field by field.
use Rattle.std.proofs.Common.{◌≡◌, ℕ, ◌<◌, Bool, true, false, cond, not, ◌&&◌, eqb, ltb, List, [], ◌++◌, Some, None, Option, sym, refl, ap, ◌∙◌, arith}
use Rattle.std.proofs.lemmas.Bool.{ltb-true, lt-ltb, eqb-true, eq-eqb, ne_eqb, and_parts, and_from, eqb-false, not-true, not_from_false}
use Rattle.numbers.specs.Stored.{number}
use Rattle.plan.specs.declared.parts.Side.{Side}
use Rattle.plan.specs.declared.parts.Side.TheVariants.{West, East, Branch}
use Rattle.plan.specs.declared.parts.Port.{Port}
use Rattle.plan.specs.Layout.{is_switch, has_side, port, opposed}
use Rattle.file.specs.Checks.{check, first_failing}
use Rattle.file.specs.Contents.{section_count, components, kind_of, section_of, port_code, port_of, stored, port_in, layout_of}
use Rattle.file.specs.Readings.{far_checks, blank_check, field_checks, port_checks, switch_checks, component_checks, record_at, section_check, component_fields, section_fields, second_reading}
use Rattle.file.specs.Members.{members}
use Rattle.file.proofs.Checks.{Passed, passed-++, parts-++, head_passed, passed_head, each_all, all_each}

pub record Named (s : List ℕ) (p q : Port) : Type 0 where
  pub exists : port_in s q ≡ true
  pub opposite : opposed (layout_of s) p q ≡ true
  pub back : stored s q ≡ port_code p

-- a port's field is in order
pub record Field (s : List ℕ) (p : Port) : Type 0 where
  pub filled : is_switch (kind_of s p.component) ≡ true → stored s p ≡ 65535 → ⊥
  pub named : (q : Port) → port_of (stored s p) ≡ Some q → Named s p q
  pub unnamed : port_of (stored s p) ≡ None → stored s p ≡ 65535

not_both : (a : Bool) (n : ℕ) → not (a && eqb n 65535) ≡ true → a ≡ true → n ≡ 65535 → ⊥
not_both true n h e k = let b = eq-eqb n 65535 k in let z : ◌≡◌ {A = Bool} true false = cc in let y : ◌≡◌ {A = ℕ} 0 1 = cc in omega arith
not_both false n h e k = let y : ◌≡◌ {A = ℕ} 0 1 = cc in omega arith

both_not : (a : Bool) (n : ℕ) → (a ≡ true → n ≡ 65535 → ⊥) → not (a && eqb n 65535) ≡ true
both_not true n h = let b = ne_eqb n 65535 (h refl) in cc
both_not false n h = refl

pub read_port : (s : List ℕ) (p : Port) → Passed (port_checks s p) → Field s p
unfolding port_checks blank_check field_checks
read_port s p h =
    let a = head_passed _ _ _ h in record {
      filled = not_both (is_switch (kind_of s p.component)) (stored s p) a.0;
      named = λ q e.
          let b = head_passed _ _ _ (sym (ap (λ o. first_failing (far_checks s p o)) e) ∙ a.1) in
          let d = head_passed _ _ _ b.1 in
          let f = head_passed _ _ _ d.1 in
          record { exists = b.0; opposite = d.0; back = eqb-true (stored s q) (port_code p) f.0 };
      unnamed = λ e. eqb-true (stored s p) 65535 (head_passed _ _ _ (sym (ap (λ o. first_failing (far_checks s p o)) e) ∙ a.1)).0;
    }

far_passed : (s : List ℕ) (p : Port) → Field s p → (o : Option Port) → port_of (stored s p) ≡ o → Passed (far_checks s p o)
far_passed s p h None e = passed_head _ _ _ (eq-eqb (stored s p) 65535 (h.unnamed e)) refl
far_passed s p h (Some q) e =
    let n = h.named q e in
    passed_head _ _ _ n.exists (passed_head _ _ _ n.opposite (passed_head _ _ _ (eq-eqb (stored s q) (port_code p) n.back) refl))

pub port_read : (s : List ℕ) (p : Port) → Field s p → Passed (port_checks s p)
unfolding port_checks blank_check field_checks
port_read s p h = passed_head _ _ _ (both_not (is_switch (kind_of s p.component)) (stored s p) h.filled) (far_passed s p h (port_of (stored s p)) refl)

-- every field of the file is in order
pub record Fields (s : List ℕ) : Type 0 where
  pub ports : (p : Port) → port_in s p ≡ true → Field s p
  pub sections : (c : ℕ) → c < components s → is_switch (kind_of s c) ≡ true → section_of s c < section_count s
  pub members : (k : ℕ) → k < section_count s → (number s (record_at s k) ≡ 0 → ⊥) × (number s (record_at s k) ≡ members (layout_of s) k)

record Component (s : List ℕ) (c : ℕ) : Type 0 where
  west : Passed (port_checks s (port c West))
  east : Passed (port_checks s (port c East))
  branch : is_switch (kind_of s c) ≡ true → Passed (port_checks s (port c Branch))
  section : is_switch (kind_of s c) ≡ true → section_of s c < section_count s

read_component : (s : List ℕ) (c : ℕ) → Passed (component_checks s c) → Component s c
unfolding component_checks switch_checks
read_component s c h =
    let a = parts-++ (port_checks s (port c West)) (port_checks s (port c East) ++ cond (is_switch (kind_of s c)) (switch_checks s c) []) h in
    let b = parts-++ (port_checks s (port c East)) (cond (is_switch (kind_of s c)) (switch_checks s c) []) a.1 in
    let d : is_switch (kind_of s c) ≡ true → Passed (port_checks s (port c Branch)) × Passed (check (ltb (section_of s c) (section_count s)) _) =
    λ e. parts-++ (port_checks s (port c Branch)) _ (sym (ap (λ t. first_failing (cond t (switch_checks s c) [])) e) ∙ b.1) in
    record {
      west = a.0;
      east = b.0;
      branch = λ e. (d e).0;
      section = λ e. ltb-true _ _ (head_passed _ _ _ (d e).1).0;
    }

component_read : (s : List ℕ) (c : ℕ) → Component s c → Passed (component_checks s c)
unfolding component_checks switch_checks
component_read s c h =
    let rest : (b : Bool) → is_switch (kind_of s c) ≡ b → Passed (cond b (switch_checks s c) []) =
    λ b. elim b as (λ t. is_switch (kind_of s c) ≡ t → Passed (cond t (switch_checks s c) [])) [
      | true ↦ λ e. passed-++ (port_checks s (port c Branch)) _ (h.branch e) (passed_head _ _ _ (lt-ltb _ _ (h.section e)) refl)
      | false ↦ λ e. refl
    ] in
    passed-++ (port_checks s (port c West)) _ h.west (passed-++ (port_checks s (port c East)) _ h.east (rest (is_switch (kind_of s c)) refl))

-- a port of the file, by its side
port_field : (s : List ℕ) (c : ℕ) → Component s c → (d : Side) → has_side (kind_of s c) d ≡ true → Field s (port c d)
port_field s c h West e = read_port s (port c West) h.west
port_field s c h East e = read_port s (port c East) h.east
port_field s c h Branch e = read_port s (port c Branch) (h.branch e)

pub read_fields : (s : List ℕ) → Passed (second_reading s) → Fields s
unfolding second_reading section_check
read_fields s h =
    let a = parts-++ (component_fields s) (section_fields s) h in
    let each_one : (c : ℕ) → c < components s → Component s c = λ c l. read_component s c (each_all (components s) _ a.0 c l) in
    let member : (k : ℕ) → k < section_count s → (not (eqb (number s (record_at s k)) 0) ≡ true) × (eqb (number s (record_at s k)) (members (layout_of s) k) ≡ true) =
    λ k l. and_parts _ _ (head_passed _ _ _ (each_all (section_count s) _ a.1 k l)).0 in
    record {
      ports = λ p e.
          let b = and_parts (ltb p.component (components s)) (has_side (kind_of s p.component) p.side) e in
          port_field s p.component (each_one p.component (ltb-true _ _ b.0)) p.side b.1;
      sections = λ c l. (each_one c l).section;
      members = λ k l. (eqb-false _ _ (not-true _ (member k l).0), eqb-true _ _ (member k l).1);
    }

pub fields_read : (s : List ℕ) → Fields s → Passed (second_reading s)
unfolding second_reading section_check
fields_read s h =
    let here : (c : ℕ) → c < components s → (d : Side) → has_side (kind_of s c) d ≡ true → Passed (port_checks s (port c d)) =
    λ c l d e. port_read s (port c d) (h.ports (port c d) (and_from _ _ (lt-ltb _ _ l) e)) in
    let each_one : (c : ℕ) → c < components s → Passed (component_checks s c) =
    λ c l. component_read s c (record {
      west = here c l West refl;
      east = here c l East refl;
      branch = λ e. here c l Branch e;
      section = h.sections c l;
    }) in
    let member : (k : ℕ) → k < section_count s → Passed (section_check s k) =
    λ k l. passed_head _ _ _ (and_from _ _ (not_from_false _ (ne_eqb _ _ (h.members k l).0)) (eq-eqb _ _ (h.members k l).1)) refl in
    passed-++ (component_fields s) (section_fields s) (all_each (components s) _ each_one) (all_each (section_count s) _ member)
