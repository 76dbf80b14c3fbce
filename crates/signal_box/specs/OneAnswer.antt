-- The journal, the plan and what a call brought leave the call one answer.
use Rattle.std.specs.Prelude.{◌≡◌, ℕ, List, Result}
use Rattle.fault.specs.declared.kinds.BoxFault.{BoxFault}
use Rattle.plan.specs.declared.parts.Position.{Position}
use Rattle.plan.specs.Layout.{Layout}
use Rattle.signal_box.specs.Journal.{Journal, Demands}
use Rattle.signal_box.specs.Journal.Event.{Turned, Thrown, Occupied, Cleared, Opened, Released}

abbrev pub OneAnswer : Type 0
OneAnswer = (l : Layout) (j : Journal) →
    ((space a b : List ℕ) (r q : Result ℕ BoxFault) → Demands l j (Turned space a r) → Demands l j (Turned space b q) → (r ≡ q) × (a ≡ b))
    × ((c : ℕ) (p : Position) (r q : Result (Unit {0}) BoxFault) → Demands l j (Thrown c p r) → Demands l j (Thrown c p q) → r ≡ q)
    × ((n : ℕ) (r q : Result (Unit {0}) BoxFault) → Demands l j (Occupied n r) → Demands l j (Occupied n q) → r ≡ q)
    × ((n : ℕ) (r q : Result (Unit {0}) BoxFault) → Demands l j (Cleared n r) → Demands l j (Cleared n q) → r ≡ q)
    × ((s : List ℕ) (r q : Result ℕ BoxFault) → Demands l j (Opened s r) → Demands l j (Opened s q) → r ≡ q)
    × ((n : ℕ) (r q : Result (Unit {0}) BoxFault) → Demands l j (Released n r) → Demands l j (Released n q) → r ≡ q)
