-- What is told of a frame.
use Rattle.std.specs.Prelude.{◌≡◌, ℕ, Bool, cond, ◌&&◌, Ok, Err, Result, nat_lt}
use Rattle.fault.specs.declared.kinds.BoxFault.{BoxFault}
use Rattle.fault.specs.declared.kinds.BoxFault.TheVariants.{Plan, NoSuchSection}
use Rattle.fault.specs.declared.kinds.PlanFault.TheVariants.{NoSuchPart}
use Rattle.plan.specs.declared.parts.Position.{Position}
use Rattle.plan.specs.Layout.{Layout, is_switch}
use Rattle.frame.specs.Book.{Book}
use Rattle.frame.specs.Sections.{IsSection}

-- how a switch of the layout lies
abbrev pub told_position : Layout → Book → ℕ → Result Position BoxFault
told_position l b c = cond (nat_lt c l.count && is_switch (l.kind c)) (Ok (b.position c)) (Err (Plan (NoSuchPart 0)))

-- whether a section of the layout is occupied
abbrev pub ToldOccupied : Layout → Book → ℕ → Result Bool BoxFault → Type 0
ToldOccupied l b n (Ok m) = IsSection l n × (m ≡ b.occupied n)
ToldOccupied l b n (Err f) = (IsSection l n → ⊥) × (f ≡ NoSuchSection)
