-- The one_switch station is lawful, it has the two routes and no other, and what its register's turns answer.
use Rattle.std.proofs.Common.{◌≡◌, ℕ, ◌<◌, Bool, true, false, cond, ltb, List, [], ◌++◌, length, get_or, take, Ok, Err, Result, sym, refl, ap, ◌∙◌, subst, ⊎_elim, append-nil, arith}
use Rattle.std.proofs.lemmas.List.{take_all, drop_all, length-take-le}
use Rattle.std.proofs.lemmas.Bool.{cases_Bool, ltb-true, ltb-false}
use Rattle.fault.specs.declared.kinds.BoxFault.{BoxFault}
use Rattle.fault.specs.declared.kinds.BoxFault.TheVariants.{Drained, ShortSpace}
use Rattle.plan.specs.Layout.{Lawful}
use Rattle.file.specs.Checks.{each}
use Rattle.file.specs.Contents.{signal_count, switch_count, straight_count, section_count}
use Rattle.file.specs.Members.{tally}
use Rattle.file.specs.Readings.{section_checks, signal_section, switch_section, straight_section, point_sections, first_reading, blank_check, field_checks, port_checks, switch_checks, component_checks, section_check, second_reading, look}
use Rattle.file.proofs.Accepted.{good_look}
use Rattle.filed.specs.declared.filed.FiledPlan.{FiledPlan}
use Rattle.register.specs.declared.registers.Register.{Register}
use Rattle.register.specs.Routes.{FirstRoutes, NextRoute, AllOut}
use Rattle.register.specs.Handed.{Turned}
use Rattle.row.specs.Put.{text_told}
use Rattle.row.specs.Row.{bytes_of}
use Rattle.table.specs.Station.{one_switch, station, routes}
use Rattle.table.proofs.Routes.{the_routes, next_of}
use Rattle.table.proofs.Turns.{turn_told, turn_left, turn_drained}

pub accepted : look one_switch ≡ Ok tt
unfolding one_switch signal_count switch_count straight_count section_count each tally section_checks signal_section switch_section straight_section point_sections first_reading blank_check field_checks port_checks switch_checks component_checks section_check second_reading look
accepted = refl

lawful : Lawful station
unfolding station
lawful = (good_look one_switch accepted).0

pub both_routes : FirstRoutes station routes × AllOut station routes
unfolding one_switch station routes signal_count switch_count straight_count
both_routes = the_routes station lawful routes refl

-- what a turn answers after so many rows, by the length of its space
abbrev pub told_turn : ℕ → ℕ → Result ℕ BoxFault
told_turn k n =
    cond (ltb k (length routes))
    (cond (ltb n (length (bytes_of (get_or routes k [])))) (Err ShortSpace) (Ok (length (bytes_of (get_or routes k [])))))
    (Err Drained)

module _ (k : ℕ) (space space' : List ℕ) (g : Register FiledPlan) where
  next : k < length routes → NextRoute station (take k routes) (get_or routes k [])
  next = next_of station routes both_routes.0 both_routes.1 k

  few : k < length routes → length (take k routes) < 65535
  unfolding routes
  few h = omega (arith, length-take-le k routes (omega arith))

  pub turn_is : (r : Result ℕ BoxFault) → Turned station (take k routes) space space' g r → r ≡ told_turn k (length space)
  turn_is r t =
      let row = get_or routes k [] in
      let B : Bool → Type 0 = λ b. r ≡ cond b (text_told (bytes_of row) space) (Err Drained) in
      ⊎_elim
      (λ (low : ltb k (length routes) ≡ true).
      let h = ltb-true k (length routes) low in
      subst B (sym low) (turn_told station (take k routes) space space' g row (next h) (few h) r t))
      (λ (high : ltb k (length routes) ≡ false).
      let A : List (List ℕ) → Type 0 = λ x. AllOut station x in
      let out = subst A (sym (take_all k routes (ltb-false k (length routes) high))) both_routes.1 in
      subst B (sym high) (turn_drained station (take k routes) space space' g out r t))
      (cases_Bool (ltb k (length routes)))

  -- a space that is just long enough is filled by the row
  pub writes : (bytes : List ℕ) (r : Result ℕ BoxFault) → told_turn k (length bytes) ≡ Ok (length bytes) → ltb k (length routes) ≡ true → bytes_of (get_or routes k []) ≡ bytes → length space ≡ length bytes → Turned station (take k routes) space space' g r → (r ≡ Ok (length bytes)) × (space' ≡ bytes)
  writes bytes r room low is size t =
      let row = get_or routes k [] in
      let T : Result ℕ BoxFault → Type 0 = λ x. Turned station (take k routes) space space' g x in
      let told : r ≡ Ok (length bytes) = turn_is r t ∙ ap (told_turn k) size ∙ room in
      let left = turn_left station (take k routes) space space' g row (next (ltb-true k (length routes) low)) (length bytes) (subst T told t) in
      (told, left ∙ ap (λ x. bytes_of row ++ x) (drop_all (length bytes) space (omega arith)) ∙ append-nil (bytes_of row) ∙ is)
