-- When two ports of a sheet are connected, and what connecting and disconnecting make of a layout.
use Rattle.std.specs.Prelude.{ℕ, Bool, cond, not, ◌&&◌, List, length, is_some, Some, None, Ok, Err, Option, Result}
use Rattle.fault.specs.declared.kinds.PlanFault.{PlanFault}
use Rattle.fault.specs.declared.kinds.PlanFault.TheVariants.{NoSuchPart, NotOpposed, AlreadyConnected, BlankPort}
use Rattle.plan.specs.declared.parts.Port.{Port}
use Rattle.plan.specs.Layout.{Layout, is_port, opposed, same_port, leads_to}
use Rattle.sheet.specs.declared.component.Component.{Component}
use Rattle.sheet.specs.Records.{components_of, named}

unfoldable pub may_connect : Layout → Port → Port → Bool
may_connect l p q = (is_port l p && is_port l q) && opposed l p q

abbrev pub far_to : Layout → (Port → Option Port) → Port → Option Port → Option Port
far_to l names p None = None
far_to l names p (Some q) = cond (may_connect l p q && leads_to (names q) p) (Some q) None

-- the far port of p: the port that p names, where the two may be connected and it names p in turn
unfoldable pub far_in : Layout → (Port → Option Port) → Port → Option Port
far_in l names p = far_to l names p (names p)

-- what n records say: a connection stands where two ports name one another
abbrev pub layout_of : List Component → ℕ → Layout
layout_of rs n = record {
  count = n;
  kind = (components_of rs n).kind;
  section = (components_of rs n).section;
  far = far_in (components_of rs n) (named rs);
}

-- what all the records say
abbrev pub drawn : List Component → Layout
drawn rs = layout_of rs (length rs)

abbrev pub is_blank : Layout → Port → Bool
is_blank l p = not (is_some (l.far p))

abbrev pub told_connect : Layout → Port → Port → Result (Unit {0}) PlanFault
told_connect l a b =
    cond (is_port l a && is_port l b)
    (cond (opposed l a b)
    (cond (is_blank l a && is_blank l b) (Ok tt) (Err AlreadyConnected))
    (Err (NotOpposed 0)))
    (Err (NoSuchPart 0))

-- the same layout with one connection more
abbrev pub connected : Layout → Port → Port → Layout
connected l a b = record {
  count = l.count;
  kind = l.kind;
  section = l.section;
  far = λ p. cond (same_port p a) (Some b) (cond (same_port p b) (Some a) (l.far p));
}

abbrev pub told_disconnect : Layout → Port → Result (Unit {0}) PlanFault
told_disconnect l p = cond (is_port l p) (cond (is_blank l p) (Err (BlankPort 0)) (Ok tt)) (Err (NoSuchPart 0))

-- the same layout without the connection of a port
abbrev pub disconnected : Layout → Port → Layout
disconnected l a = record {
  count = l.count;
  kind = l.kind;
  section = l.section;
  far = λ p. cond (same_port p a) None (cond (leads_to (l.far a) p) None (l.far p));
}
