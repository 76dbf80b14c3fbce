-- What a station plan says, the laws that it keeps, and what each of its four tellings answers.
use Rattle.std.specs.Prelude.{◌≡◌, ℕ, ◌<◌, ◌≤◌, Bool, true, false, cond, not, ◌&&◌, Some, None, Ok, Err, Option, Result, ◌==◌, ◌≢◌, nat_lt}
use Rattle.fault.specs.declared.kinds.PlanFault.{PlanFault}
use Rattle.fault.specs.declared.kinds.PlanFault.TheVariants.{NoSuchPart}
use Rattle.plan.specs.declared.parts.Direction.{Direction}
use Rattle.plan.specs.declared.parts.Direction.TheVariants.{East, West}
use Rattle.plan.specs.declared.parts.Kind.{Kind}
use Rattle.plan.specs.declared.parts.Kind.TheVariants.{Signal, Switch, Straight}
use Rattle.plan.specs.declared.parts.Side.{Side}
use Rattle.plan.specs.declared.parts.Side.TheVariants.{West as WestSide, East as EastSide, Branch}
use Rattle.plan.specs.declared.parts.Port.{Port}

-- Components are numbered from 0 to count - 1; each has a kind, a switch has a point section, and a port has a far
-- port or is blank.
pub record Layout : Type 0 where
  pub count : ℕ
  pub kind : ℕ → Kind
  pub section : ℕ → ℕ
  pub far : Port → Option Port

abbrev pub opposite : Direction → Direction
opposite East = West
opposite West = East

-- the direction that is written beside a signal or a switch
abbrev pub direction_of : Kind → Direction
direction_of (Signal d) = d
direction_of (Switch d) = d
direction_of Straight = East

abbrev pub is_switch : Kind → Bool
is_switch (Signal d) = false
is_switch (Switch d) = true
is_switch Straight = false

-- the port at a side of a component
abbrev pub port : ℕ → Side → Port
port c d = record { component = c; side = d }

-- every component has a west and an east port, and a switch has a branch
abbrev pub has_side : Kind → Side → Bool
has_side k WestSide = true
has_side k EastSide = true
has_side k Branch = is_switch k

abbrev pub is_port : Layout → Port → Bool
is_port l p = nat_lt p.component l.count && has_side (l.kind p.component) p.side

-- the way that a port of such a component faces
abbrev pub side_faces : Kind → Side → Direction
side_faces k WestSide = West
side_faces k EastSide = East
side_faces k Branch = direction_of k

abbrev pub faces : Layout → Port → Direction
faces l p = side_faces (l.kind p.component) p.side

pub record Lawful (l : Layout) : Type 0 where
  -- bounds
  pub few : l.count ≤ 512
  pub sections : (c : ℕ) → c < l.count → is_switch (l.kind c) ≡ true → l.section c < 512
  -- only a port is connected
  pub ports : (p q : Port) → l.far p ≡ Some q → is_port l p ≡ true
  -- connections are mutual, of ports that face opposite ways and belong to different components
  pub both_ways : (p q : Port) → l.far p ≡ Some q → l.far q ≡ Some p
  pub opposed : (p q : Port) → l.far p ≡ Some q → faces l q ≡ opposite (faces l p)
  pub apart : (p q : Port) → l.far p ≡ Some q → p.component ≢ q.component

-- what is told of a component or a port that may not exist
abbrev pub told : {T : Type 0} → Bool → T → Result T PlanFault
told exists x = cond exists (Ok x) (Err (NoSuchPart 0))

abbrev pub told_kind : Layout → ℕ → Result Kind PlanFault
told_kind l c = told (nat_lt c l.count) (l.kind c)

abbrev pub told_section : Layout → ℕ → Result ℕ PlanFault
told_section l c = told (nat_lt c l.count && is_switch (l.kind c)) (l.section c)

abbrev pub told_far : Layout → Port → Result (Option Port) PlanFault
told_far l p = told (is_port l p) (l.far p)

abbrev pub same_direction : Direction → Direction → Bool
same_direction East East = true
same_direction East West = false
same_direction West East = false
same_direction West West = true

-- the two ports, of components of such kinds, face opposite ways and belong to different components
abbrev pub ports_opposed : Kind → Port → Kind → Port → Bool
ports_opposed k p k' q = not (same_direction (side_faces k p.side) (side_faces k' q.side)) && not (p.component == q.component)

abbrev pub opposed : Layout → Port → Port → Bool
opposed l p q = ports_opposed (l.kind p.component) p (l.kind q.component) q

abbrev pub same_side : Side → Side → Bool
same_side WestSide WestSide = true
same_side WestSide EastSide = false
same_side WestSide Branch = false
same_side EastSide WestSide = false
same_side EastSide EastSide = true
same_side EastSide Branch = false
same_side Branch WestSide = false
same_side Branch EastSide = false
same_side Branch Branch = true

abbrev pub same_port : Port → Port → Bool
same_port p q = p.component == q.component && same_side p.side q.side

-- whether what a port's record names is the port
abbrev pub leads_to : Option Port → Port → Bool
leads_to None p = false
leads_to (Some q) p = same_port q p

abbrev pub told_connected : Layout → Port → Port → Result Bool PlanFault
told_connected l a b = told (is_port l a && is_port l b) (leads_to (l.far a) b)
