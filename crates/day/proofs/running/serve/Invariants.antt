use Rattle.std.proofs.Common.{◌≡◌, ◌+◌, ◌≤◌, ◌++◌, vec_items, vec_len, vec_capacity}
use Rattle.signal_box.specs.Journal.{Journal}
use Rattle.signal_box.specs.Kept.{Kept}
use Rattle.day.specs.Pool.{serials}
use Rattle.day.specs.Chain.{Served}
use Rattle.day.proofs.running.serve.Given as goal

abbrev pub invariant-loop-order : goal.invariant-loop-order
invariant-loop-order g l = record {
  can_next : (goal.iterator-loop-order g).can_next l.order-iterator;
  is_finite : (goal.iterator-loop-order g).is_finite l.order-iterator;
  served : (j : Journal) → Kept (g.P.Plan.layout l.initial.station.register.plan) j l.initial.station →
      Served (g.P.Plan.layout l.initial.station.register.plan) j (serials (vec_items l.initial.pool)) l.yielded (vec_items l.answers) (serials (vec_items l.pool)) l.station;
  plan : l.station.register.plan ≡ l.initial.station.register.plan;
  slips_fit : vec_len l.pool + (goal.iterator-loop-order g).remaining l.order-iterator ≤ vec_capacity l.pool;
  answers_fit : vec_len l.answers + (goal.iterator-loop-order g).remaining l.order-iterator ≤ vec_capacity l.answers;
  orders : l.initial.order-iterator.rest.items ≡ l.yielded ++ l.order-iterator.rest.items;
}
