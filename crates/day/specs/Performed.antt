-- What an order, its answer and the pool of slips before and after come to: a call on the box with what it brought and
-- what it answered, or no call.
use Rattle.std.specs.Prelude.{◌≡◌, ℕ, ◌<◌, ◌≤◌, ◌⊎◌, List, length, Some, None, vec_items, Option, Result, Vec, slice_index}
use Rattle.std.specs.declared.alloc.Global.{Global}
use Rattle.fault.specs.declared.kinds.BoxFault.{BoxFault}
use Rattle.signal_box.specs.Journal.{Event}
use Rattle.signal_box.specs.Journal.Event.{Turned, Restarted, Thrown, Occupied, Cleared, Opened, Released}
use Rattle.day.specs.declared.orders.Order.{Order}
use Rattle.day.specs.declared.orders.Order.TheVariants.{Turn, Restart, Throw, Occupy, Clear, Open, Release}
use Rattle.day.specs.declared.orders.Answer.{Answer}
use Rattle.day.specs.declared.orders.Answer.TheVariants as says
use Rattle.day.specs.Pool.{with_given, with_brought}

abbrev pub Performed : Order → Answer → List ℕ → List ℕ → Option Event → Type 0
Performed (Turn v) a p p' e =
    (w : Vec ℕ Global) × (r : Result ℕ BoxFault) × (a ≡ says.Turned w r) × (e ≡ Some (Turned (vec_items v) (vec_items w) r)) × (p' ≡ p)
Performed Restart a p p' e = (a ≡ says.Restarted) × (e ≡ Some Restarted) × (p' ≡ p)
Performed (Throw c t) a p p' e =
    (r : Result (Unit {0}) BoxFault) × (a ≡ says.Thrown r) × (e ≡ Some (Thrown c t r)) × (p' ≡ p)
Performed (Occupy n) a p p' e =
    (r : Result (Unit {0}) BoxFault) × (a ≡ says.Occupied r) × (e ≡ Some (Occupied n r)) × (p' ≡ p)
Performed (Clear n) a p p' e =
    (r : Result (Unit {0}) BoxFault) × (a ≡ says.Cleared r) × (e ≡ Some (Cleared n r)) × (p' ≡ p)
Performed (Open v) a p p' e =
    (r : Result ℕ BoxFault) × (a ≡ says.Opened r) × (e ≡ Some (Opened (vec_items v) r)) × (p' ≡ with_given p r)
Performed (Release k) a p p' e =
    ((k < length p) × ((r : Result (Unit {0}) BoxFault) × (a ≡ says.Released (slice_index p k) r) × (e ≡ Some (Released (slice_index p k) r)) × (p' ≡ with_brought p k r)))
    ⊎ ((length p ≤ k) × (a ≡ says.NoSlip) × (e ≡ None) × (p' ≡ p))
