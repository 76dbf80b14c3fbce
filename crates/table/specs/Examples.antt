-- What an example says, in the words of the definition that the call's contract cites.
use Rattle.std.specs.Prelude.{◌≡◌, ℕ, List, [], ◌∷◌, length, take, Ok, Err, Result}
use Rattle.fault.specs.declared.kinds.PlanFault.{PlanFault}
use Rattle.fault.specs.declared.kinds.BoxFault.{BoxFault}
use Rattle.fault.specs.declared.kinds.BoxFault.TheVariants.{NoRoute}
use Rattle.file.specs.Readings.{look}
use Rattle.filed.specs.declared.filed.FiledPlan.{FiledPlan}
use Rattle.judging.specs.Judged.{Judged}
use Rattle.judging.specs.Shared.{told_shared}
use Rattle.register.specs.declared.registers.Register.{Register}
use Rattle.register.specs.Routes.{FirstRoutes, AllOut}
use Rattle.register.specs.Handed.{Turned}
use Rattle.plan.specs.declared.parts.Position.{Position}
use Rattle.signal_box.specs.Journal.{Journal, Event, unwritten, after, Demands}
use Rattle.signal_box.specs.Journal.Event.{Opened, Thrown}
use Rattle.table.specs.Station.{station, routes}

pub data Example : Type 0 where
  -- looking over the file answers so
  Looks : List ℕ → Result (Unit {0}) PlanFault → Example
  -- these are the routes of the station, in their order, and no other is
  HasRoutes : List (List ℕ) → Example
  -- after so many rows, a turn with a space of so many bytes is refused
  TurnRefused : ℕ → ℕ → BoxFault → Example
  -- after so many rows, a turn with a space that is just long enough writes these bytes
  TurnWrites : ℕ → List ℕ → Example
  -- judging the row accepts it
  IsRoute : List ℕ → Example
  -- judging the row refuses it, since it goes wrong at this entry
  NoRouteAt : List ℕ → ℕ → Example
  -- the two rows have so many components in common
  Share : List ℕ → List ℕ → ℕ → Example
  -- on a new box, after these calls, opening the row is answered so
  Opens : List Event → List ℕ → Result ℕ BoxFault → Example
  -- on a new box, after these calls, throwing the switch is answered so
  Throws : List Event → ℕ → Position → Result (Unit {0}) BoxFault → Example

-- the journal of some calls on a new box
abbrev pub written : Journal → List Event → Journal
written j [] = j
written j (e ∷ es) = written (after j e) es

-- what may come of a turn, after so many rows of the station and with a space of so many bytes: whatever the space
-- holds, and whatever register is left
abbrev pub Turns : ℕ → ℕ → (List ℕ → Result ℕ BoxFault → Type 0) → Type 0
Turns k n Ends =
    (space space' : List ℕ) (g : Register FiledPlan) (r : Result ℕ BoxFault) →
    length space ≡ n → Turned station (take k routes) space space' g r → Ends space' r

abbrev pub Holds : Example → Type 0
Holds (Looks s r) = look s ≡ r
Holds (HasRoutes rows) = FirstRoutes station rows × AllOut station rows
Holds (TurnRefused k n e) = Turns k n (λ space r. r ≡ Err e)
Holds (TurnWrites k bytes) = Turns k (length bytes) (λ space r. (r ≡ Ok (length bytes)) × (space ≡ bytes))
Holds (IsRoute s) = (r : Result (Unit {0}) BoxFault) → Judged station s r → r ≡ Ok tt
Holds (NoRouteAt s k) = (r : Result (Unit {0}) BoxFault) → Judged station s r → r ≡ Err (NoRoute k)
Holds (Share a b n) = told_shared a b ≡ Ok n
Holds (Opens es s r) = Demands station (written unwritten es) (Opened s r)
Holds (Throws es c p r) = Demands station (written unwritten es) (Thrown c p r)
