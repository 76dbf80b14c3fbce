-- The table: each row is a test that computes, and what passes its test holds.
use Rattle.std.proofs.Common.{◌≡◌, ℕ, true, ltb, List, [], ◌++◌, length, get_or, Ok, Err, Option, sym, refl, ap, ◌∙◌, subst}
use Rattle.std.specs.List.{AllByRecursion}
use Rattle.std.proofs.lemmas.Bool.{ltb-true}
use Rattle.std.proofs.ByRecursion.{All-append, All-weaker}
use Rattle.file.specs.Checks.{each}
use Rattle.file.specs.Contents.{signal_count, switch_count, straight_count, section_count}
use Rattle.file.specs.Members.{tally}
use Rattle.file.specs.Readings.{section_checks, signal_section, switch_section, straight_section, point_sections, first_reading, blank_check, field_checks, port_checks, switch_checks, component_checks, section_check, second_reading, look}
use Rattle.judging.specs.Shared.{told_shared}
use Rattle.register.specs.Routes.{FirstRoutes, AllOut}
use Rattle.route.specs.Components.{times}
use Rattle.row.specs.Row.{bytes_of, words, all_ok, numbers_from, entries_of}
use Rattle.fault.specs.declared.kinds.BoxFault.{BoxFault}
use Rattle.plan.specs.Layout.{is_switch}
use Rattle.frame.specs.Calls.{Standing, Throwing}
use Rattle.frame.specs.Tests.{refusal}
use Rattle.signal_box.specs.Journal.{unwritten, NextSerial}
use Rattle.sets.specs.Members.{sum_below}
use Rattle.table.specs.Station.{one_switch, station, routes}
use Rattle.table.specs.Examples.{Example, Looks, HasRoutes, TurnRefused, TurnWrites, IsRoute, NoRouteAt, Share, Opens, Throws, written, Holds}
use Rattle.table.specs.Table.{file_examples, register_examples, row_examples, box_examples, table, WorkedExamples}
use Rattle.table.proofs.Frames.{told_standing, standing, judged_then, told_switch, throwing}
use Rattle.table.proofs.Station.{accepted, both_routes, told_turn, turn_is, writes}
use Rattle.table.proofs.Judgements.{judged_wrong, only_wrong, judged_right, accepted_so, only_right}

-- the test of an example
abbrev Test : Example → Type 0
Test (Looks s r) = look s ≡ r
Test (HasRoutes rows) = rows ≡ routes
Test (TurnRefused k n e) = told_turn k n ≡ Err e
Test (TurnWrites k bytes) =
    (told_turn k (length bytes) ≡ Ok (length bytes)) × (ltb k (length routes) ≡ true) × (bytes_of (get_or routes k []) ≡ bytes)
Test (IsRoute s) = judged_right station s ≡ true
Test (NoRouteAt s k) = judged_wrong station s k ≡ true
Test (Share a b n) = told_shared a b ≡ Ok n
Test (Opens es s r) =
    (judged_right station s ≡ true) × (refusal r ≡ told_standing station (written unwritten es).book (entries_of s)) × NextSerial (written unwritten es) r
Test (Throws es c p r) =
    (ltb c station.count ≡ true) × (is_switch (station.kind c) ≡ true) × (refusal r ≡ told_switch station (written unwritten es).book c)

meets : (e : Example) → Test e → Holds e
meets (Looks s r) h = h
meets (HasRoutes rows) h =
    let R : List (List ℕ) → Type 0 = λ x. FirstRoutes station x × AllOut station x in subst R (sym h) both_routes
meets (TurnRefused k n e) h = λ space space' g r size t. turn_is k space space' g r t ∙ ap (told_turn k) size ∙ h
meets (TurnWrites k bytes) h = λ space space' g r size t. writes k space space' g bytes r h.0 h.1 h.2 size t
meets (IsRoute s) h = only_right station s h
meets (NoRouteAt s k) h = only_wrong station s k h
meets (Share a b n) h = h
meets (Opens es s r) h =
    let b = (written unwritten es).book in
    let S : Option BoxFault → Type 0 = λ o. Standing station b (entries_of s) o in
    (judged_then station s (Standing station b (entries_of s)) (accepted_so station s h.0) (refusal r) (subst S (sym h.1) (standing station b (entries_of s))), h.2)
meets (Throws es c p r) h =
    let b = (written unwritten es).book in
    let T : Option BoxFault → Type 0 = λ o. Throwing station b c o in
    subst T (sym h.2) (throwing station b c (ltb-true c station.count h.0, h.1))

file_tests : AllByRecursion Test file_examples
unfolding one_switch signal_count switch_count straight_count section_count each tally section_checks signal_section switch_section straight_section point_sections first_reading blank_check field_checks port_checks switch_checks component_checks section_check second_reading look
file_tests = (accepted, (refl, (refl, (refl, (refl, (refl, tt))))))

register_tests : AllByRecursion Test register_examples
unfolding routes words
register_tests = (refl, (refl, ((refl, refl, refl), ((refl, refl, refl), (refl, tt)))))

row_tests : AllByRecursion Test row_examples
unfolding one_switch station signal_count switch_count straight_count all_ok numbers_from entries_of times sum_below
row_tests = (refl, (refl, (refl, (refl, (refl, tt)))))

box_tests : AllByRecursion Test box_examples
unfolding one_switch station signal_count switch_count straight_count all_ok numbers_from entries_of
box_tests = ((refl, refl, tt), ((refl, refl, refl), ((refl, refl, refl), ((refl, refl, tt), tt))))

tests : AllByRecursion Test table
tests =
    All-append Test file_examples (register_examples ++ (row_examples ++ box_examples)) file_tests
    (All-append Test register_examples (row_examples ++ box_examples) register_tests
    (All-append Test row_examples box_examples row_tests box_tests))

pub worked_examples : WorkedExamples
unfolding WorkedExamples
worked_examples = All-weaker Test Holds meets table tests
