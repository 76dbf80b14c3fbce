-- The part of a file that a component's record is.
use Rattle.std.specs.Prelude.{◌≡◌, ℕ, ◌<◌, ◌≤◌, List, length, take, drop, Ok, Err, Result}
use Rattle.fault.specs.declared.kinds.PlanFault.{PlanFault}
use Rattle.fault.specs.declared.kinds.PlanFault.TheVariants.{NoSuchPart}
use Rattle.plan.specs.declared.parts.Direction.{Direction}
use Rattle.plan.specs.declared.parts.Kind.TheVariants.{Signal as SignalKind, Switch as SwitchKind, Straight as StraightKind}
use Rattle.file.specs.Contents.{components, place, layout_of}
use Rattle.filed.specs.declared.records.Record.{Record}
use Rattle.filed.specs.declared.records.Record.TheVariants.{Signal, Switch, Straight}

-- n bytes from a place on
abbrev pub Part : List ℕ → ℕ → ℕ → List ℕ → Type 0
Part s p n b = (b ≡ take n (drop p s)) × (length b ≡ n)

-- a component's kind, the place of its record, and the part of the file
abbrev pub Holds : List ℕ → ℕ → Record → Type 0
Holds s c (Signal p b) = ((d : Direction) × ((layout_of s).kind c ≡ SignalKind d)) × (p ≡ place s c) × Part s p 5 b.now
Holds s c (Switch p b) = ((d : Direction) × ((layout_of s).kind c ≡ SwitchKind d)) × (p ≡ place s c) × Part s p 9 b.now
Holds s c (Straight p b) = ((layout_of s).kind c ≡ StraightKind) × (p ≡ place s c) × Part s p 4 b.now

abbrev pub Held : List ℕ → ℕ → Result Record PlanFault → Type 0
Held s c (Ok r) = (c < components s) × Holds s c r
Held s c (Err e) = (components s ≤ c) × (e ≡ NoSuchPart 0)
