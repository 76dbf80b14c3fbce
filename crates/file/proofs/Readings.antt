-- The parts of the readings, one after the other.
use Rattle.std.proofs.Common.{◌≡◌, ℕ, ◌+◌, Bool, true, false, cond, ltb, List, [], Some, None, Ok, refl, ap}
use Rattle.fault.specs.declared.kinds.PlanFault.{PlanFault}
use Rattle.fault.specs.declared.kinds.PlanFault.TheVariants.{NoSuchPart}
use Rattle.plan.specs.declared.parts.Side.TheVariants.{West, East, Branch}
use Rattle.plan.specs.declared.parts.Port.{Port}
use Rattle.plan.specs.Layout.{is_switch, port}
use Rattle.file.specs.Checks.{Check, check, first_failing, then}
use Rattle.file.specs.Contents.{kind_of, section_of, section_count, place, port_of, stored}
use Rattle.file.specs.Readings.{signal_section, switch_section, straight_section, point_sections, rest, first_reading, blank_check, named_checks, unnamed_checks, far_checks, field_checks, port_checks, switch_checks, component_checks, component_fields, section_fields, second_reading}
use Rattle.file.proofs.Checks.{failing-++}

pub first_parts : (s : List ℕ) → first_failing (first_reading s) ≡ then (first_failing (signal_section s)) (then (first_failing (switch_section s)) (then (first_failing (straight_section s)) (then (first_failing (point_sections s)) (first_failing (rest s)))))
unfolding first_reading
first_parts s = simp failing-++

pub field_named : (s : List ℕ) (p q : Port) → port_of (stored s p) ≡ Some q → first_failing (field_checks s p) ≡ first_failing (named_checks s p q)
unfolding field_checks
field_named s p q h = ap (λ o. first_failing (far_checks s p o)) h

pub field_unnamed : (s : List ℕ) (p : Port) → port_of (stored s p) ≡ None → first_failing (field_checks s p) ≡ first_failing (unnamed_checks s p)
unfolding field_checks
field_unnamed s p h = ap (λ o. first_failing (far_checks s p o)) h

pub port_parts : (s : List ℕ) (p : Port) → first_failing (port_checks s p) ≡ then (first_failing (blank_check s p)) (first_failing (field_checks s p))
unfolding port_checks
port_parts s p = failing-++ (blank_check s p) (field_checks s p)

abbrev pub section_named : List ℕ → ℕ → List (Check PlanFault)
section_named s c = check (ltb (section_of s c) (section_count s)) (NoSuchPart (place s c + 7))

pub switch_parts : (s : List ℕ) (c : ℕ) → first_failing (switch_checks s c) ≡ then (first_failing (port_checks s (port c Branch))) (first_failing (section_named s c))
unfolding switch_checks
switch_parts s c = failing-++ (port_checks s (port c Branch)) (section_named s c)

if_switch : (b : Bool) (cs : List (Check PlanFault)) → first_failing (cond b cs []) ≡ cond b (first_failing cs) (Ok tt)
if_switch true cs = refl
if_switch false cs = refl

pub component_parts : (s : List ℕ) (c : ℕ) → first_failing (component_checks s c) ≡ then (first_failing (port_checks s (port c West))) (then (first_failing (port_checks s (port c East))) (cond (is_switch (kind_of s c)) (first_failing (switch_checks s c)) (Ok tt)))
unfolding component_checks
component_parts s c = simp (failing-++, if_switch)

pub second_parts : (s : List ℕ) → first_failing (second_reading s) ≡ then (first_failing (component_fields s)) (first_failing (section_fields s))
unfolding second_reading
second_parts s = failing-++ (component_fields s) (section_fields s)
