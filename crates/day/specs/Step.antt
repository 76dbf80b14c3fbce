-- One order, on a box that keeps a journal.
use Rattle.std.specs.Prelude.{◌≡◌, ℕ, ◌+◌, ◌≤◌, List, vec_items, vec_len, vec_capacity, Option, Vec}
use Rattle.std.specs.declared.alloc.Global.{Global}
use Rattle.plan.specs.Layout.{Layout}
use Rattle.frame.specs.declared.slip.Slip.{Slip}
use Rattle.signal_box.specs.declared.signal_box.SignalBox.{SignalBox}
use Rattle.signal_box.specs.Journal.{Journal, Event}
use Rattle.signal_box.specs.Kept.{Kept}
use Rattle.day.specs.declared.orders.Order.{Order}
use Rattle.day.specs.declared.orders.Answer.{Answer}
use Rattle.day.specs.Performed.{Performed}
use Rattle.day.specs.Day.{noted, Answered}
use Rattle.day.specs.Pool.{serials}

abbrev pub Step : {P : Type 0} → Layout → Journal → List ℕ → Order → Answer → List ℕ → SignalBox P → Type 0
Step l j p o a p' x = (e : Option Event) × Performed o a p p' e × Answered l j e × Kept l (noted j e) x

-- An order that makes one box and pool of slips of another: the plan stays, for every journal that the box kept before the order
-- is such a step, and the pool grows by one slip at most and keeps its room.
pub record Performs {P : Type 0} (layout : P → Layout) (x : SignalBox P) (p : Vec Slip Global) (o : Order) (a : Answer) (y : SignalBox P) (q : Vec Slip Global) : Type 0 where
  pub plan : y.register.plan ≡ x.register.plan
  pub step : (j : Journal) → Kept (layout x.register.plan) j x → Step (layout x.register.plan) j (serials (vec_items p)) o a (serials (vec_items q)) y
  pub len : vec_len q ≤ vec_len p + 1
  pub capacity : vec_capacity q ≡ vec_capacity p
