-- What one order comes to, from what the calls of the box promise.
use Rattle.std.proofs.Common.{◌≡◌, ℕ, ◌+◌, ◌<◌, ◌≤◌, List, length, get_or, Some, vec_items, vec_len, vec_capacity, Vec, sym, ap, ◌∙◌}
use Rattle.std.proofs.lemmas.List.{get_or-map}
use Rattle.std.specs.List.{remove}
use Rattle.std.specs.declared.alloc.Global.{Global}
use Rattle.plan.specs.Layout.{Layout}
use Rattle.frame.specs.declared.slip.Slip.{Slip}
use Rattle.frame.proofs.Opens.{map_removed}
use Rattle.signal_box.specs.declared.signal_box.SignalBox.{SignalBox}
use Rattle.signal_box.specs.Journal.{Event}
use Rattle.signal_box.specs.Kept.{Notes}
use Rattle.day.specs.declared.orders.Order.{Order}
use Rattle.day.specs.declared.orders.Answer.{Answer}
use Rattle.day.specs.Performed.{Performed}
use Rattle.day.specs.Pool.{serials}
use Rattle.day.specs.Step.{Performs}

-- the serial of a slip of the pool
pub slip_at : (ss : List Slip) (k : ℕ) (x : Slip) → k < length ss → x ≡ get_or ss k x → x.serial ≡ get_or (serials ss) k 0
slip_at ss k x h e = ap (λ (s : Slip). s.serial) e ∙ sym (get_or-map (λ (s : Slip). s.serial) ss k x 0 h)

pub serials_removed : (ss ts : List Slip) (k : ℕ) → ts ≡ remove ss k → serials ts ≡ remove (serials ss) k
serials_removed ss ts k e = ap serials e ∙ map_removed (λ (s : Slip). s.serial) k ss

-- an order of which the box noted a call
pub performs : {P : Type 0} (layout : P → Layout) (x y : SignalBox P) (p q : Vec Slip Global) (o : Order) (a : Answer) (e : Event)
    → Performed o a (serials (vec_items p)) (serials (vec_items q)) (Some e) → Notes layout x e y → vec_len q ≤ vec_len p + 1 → vec_capacity q ≡ vec_capacity p
    → Performs layout x p o a y q
performs layout x y p q o a e did n len capacity = record {
  plan = n.plan;
  step = λ j kept. let m = n.noted j kept in (Some e, did, m.demanded, m.kept);
  len = len;
  capacity = capacity;
}
