-- The file of a layout, place by place, and which files are accepted.
use Rattle.std.specs.Prelude.{◌≡◌, ℕ, ◌+◌, ◌*◌, ◌<◌, ◌≤◌, Bool, true, List, length, is_ok, Some, None, Ok, Option, Result, ◌≢◌, slice_index_or}
use Rattle.fault.specs.declared.kinds.PlanFault.{PlanFault}
use Rattle.numbers.specs.Stored.{number}
use Rattle.plan.specs.declared.parts.Direction.{Direction}
use Rattle.plan.specs.declared.parts.Direction.TheVariants.{East, West}
use Rattle.plan.specs.declared.parts.Kind.TheVariants.{Signal, Switch, Straight}
use Rattle.plan.specs.declared.parts.Side.{Side}
use Rattle.plan.specs.declared.parts.Side.TheVariants.{West as WestSide, East as EastSide, Branch}
use Rattle.plan.specs.declared.parts.Port.{Port}
use Rattle.plan.specs.Layout.{Layout, Lawful, is_switch, port}
use Rattle.file.specs.Contents.{port_code, layout_of, stored}
use Rattle.file.specs.Members.{members}
use Rattle.file.specs.Readings.{look}

-- what is stored for a far port, and for none
abbrev pub far_code : Option Port → ℕ
far_code None = 65535
far_code (Some q) = port_code q

-- the byte of a direction: E or W
abbrev pub letter_of : Direction → ℕ
letter_of East = 69
letter_of West = 87

-- the record of a component, at a place of the file

pub record SignalAt (s : List ℕ) (l : Layout) (at c : ℕ) : Type 0 where
  pub direction : Direction
  pub kind : l.kind c ≡ Signal direction
  pub west : number s at ≡ far_code (l.far (port c WestSide))
  pub east : number s (at + 2) ≡ far_code (l.far (port c EastSide))
  pub letter : slice_index_or s (at + 4) 0 ≡ letter_of direction

pub record SwitchAt (s : List ℕ) (l : Layout) (at c : ℕ) : Type 0 where
  pub direction : Direction
  pub kind : l.kind c ≡ Switch direction
  pub west : number s at ≡ far_code (l.far (port c WestSide))
  pub east : number s (at + 2) ≡ far_code (l.far (port c EastSide))
  pub branch : number s (at + 4) ≡ far_code (l.far (port c Branch))
  pub letter : slice_index_or s (at + 6) 0 ≡ letter_of direction
  pub section : number s (at + 7) ≡ l.section c

pub record StraightAt (s : List ℕ) (l : Layout) (at c : ℕ) : Type 0 where
  pub kind : l.kind c ≡ Straight
  pub west : number s at ≡ far_code (l.far (port c WestSide))
  pub east : number s (at + 2) ≡ far_code (l.far (port c EastSide))

-- how many signals, switches, straight sections and point sections there are
pub record Counts : Type 0 where
  pub signals : ℕ
  pub switches : ℕ
  pub straights : ℕ
  pub sections : ℕ

abbrev pub switches_from : Counts → ℕ
switches_from n = 2 + 5 * n.signals

abbrev pub straights_from : Counts → ℕ
straights_from n = switches_from n + 2 + 9 * n.switches

abbrev pub sections_from : Counts → ℕ
sections_from n = straights_from n + 2 + 4 * n.straights

-- Four sections in their order, each after its count, and nothing more.
pub record FileWith (s : List ℕ) (l : Layout) (n : Counts) : Type 0 where
  pub signal_count : number s 0 ≡ n.signals
  pub switch_count : number s (switches_from n) ≡ n.switches
  pub straight_count : number s (straights_from n) ≡ n.straights
  pub section_count : number s (sections_from n) ≡ n.sections
  pub whole : length s ≡ sections_from n + 2 + 2 * n.sections
  pub all : l.count ≡ n.signals + n.switches + n.straights
  pub signal : (i : ℕ) → i < n.signals → SignalAt s l (2 + 5 * i) i
  pub switch : (i : ℕ) → i < n.switches → SwitchAt s l (switches_from n + 2 + 9 * i) (n.signals + i)
  pub straight : (i : ℕ) → i < n.straights → StraightAt s l (straights_from n + 2 + 4 * i) (n.signals + n.switches + i)
  pub member_count : (k : ℕ) → k < n.sections → number s (sections_from n + 2 + 2 * k) ≡ members l k
  -- a switch belongs to one of the point sections, of which there are few and none is without a switch
  pub belongs : (c : ℕ) → c < l.count → is_switch (l.kind c) ≡ true → l.section c < n.sections
  pub few_sections : n.sections ≤ 512
  pub none_empty : (k : ℕ) → k < n.sections → 0 < members l k

abbrev pub FileOf : List ℕ → Layout → Type 0
FileOf s l = (n : Counts) × FileWith s l n

-- every port of a switch is connected
abbrev pub Connected : Layout → Type 0
Connected l = (c : ℕ) → c < l.count → is_switch (l.kind c) ≡ true → (d : Side) → l.far (port c d) ≢ None

abbrev pub GoodFileOf : List ℕ → Layout → Type 0
GoodFileOf s l = Lawful l × FileOf s l × Connected l

abbrev pub accepts : List ℕ → Bool
accepts s = is_ok (look s)

-- A file is accepted exactly where it is the file of a lawful layout whose switches are connected at every port.
abbrev pub AcceptedExactly : List ℕ → Result (Unit {0}) PlanFault → Type 0
AcceptedExactly s r = (r ≡ Ok tt → ((l : Layout) × GoodFileOf s l)) × (((l : Layout) × GoodFileOf s l) → r ≡ Ok tt)

-- The bytes of an accepted file are a file of what they say.  A blank is no port: where a port has a far port, each
-- of the two stores the code of the other.
abbrev pub Means : List ℕ → Result (Unit {0}) PlanFault → Type 0
Means s r =
    (r ≡ Ok tt → GoodFileOf s (layout_of s))
    × (r ≡ Ok tt → (p q : Port) → (layout_of s).far p ≡ Some q → (stored s p ≡ port_code q) × (stored s q ≡ port_code p))
