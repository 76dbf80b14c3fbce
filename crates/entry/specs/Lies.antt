-- What an entry says: a component, and how it lies where it is a switch.
use Rattle.std.specs.Prelude.{ℕ, ◌/◌, ◌%◌, cond, Some, None, Option, ◌==◌}
use Rattle.plan.specs.declared.parts.Position.{Position}
use Rattle.plan.specs.declared.parts.Position.TheVariants.{Normal, Reverse}

abbrev pub component_of : ℕ → ℕ
component_of e = e / 4

abbrev pub lie_of : ℕ → Option Position
lie_of e = cond (e % 4 == 1) (Some Normal) (cond (e % 4 == 2) (Some Reverse) None)
