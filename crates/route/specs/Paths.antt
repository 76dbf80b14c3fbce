-- Paths and routes over a layout.
--
-- An entry is the number 4·c + z: a component c, and how it lies: 0 where it is no switch, 1 for a switch that lies
-- normal, 2 for one that lies reverse.  Paths are lists of entries.
use Rattle.std.specs.Prelude.{◌≡◌, ℕ, ◌+◌, ◌-◌, ◌/◌, ◌%◌, ◌<◌, ◌≤◌, Bool, true, false, cond, ◌&&◌, ◌⊎◌, List, length, Some, None, Option, ◌==◌, ◌≢◌, slice_index}
use Rattle.plan.specs.declared.parts.Direction.{Direction}
use Rattle.plan.specs.declared.parts.Direction.TheVariants.{East, West}
use Rattle.plan.specs.declared.parts.Kind.{Kind}
use Rattle.plan.specs.declared.parts.Kind.TheVariants.{Signal, Switch, Straight}
use Rattle.plan.specs.declared.parts.Side.{Side}
use Rattle.plan.specs.declared.parts.Side.TheVariants.{West as WestSide, East as EastSide, Branch}
use Rattle.plan.specs.declared.parts.Port.{Port}
use Rattle.plan.specs.Layout.{Layout, direction_of, same_side}

abbrev pub same_direction : Direction → Direction → Bool
same_direction East East = true
same_direction East West = false
same_direction West East = false
same_direction West West = true

-- the plain port that faces a direction
abbrev pub towards : Direction → Side
towards East = EastSide
towards West = WestSide

-- a switch is met facing by a train that travels the way its branch faces
abbrev pub facing : Kind → Direction → Bool
facing (Signal s) d = false
facing (Switch b) d = same_direction b d
facing Straight d = false

-- the port by which a component is left, travelling `d`: the branch of a facing switch that lies reverse, else the
-- port that faces `d`
abbrev pub leaves_by : Kind → Direction → ℕ → Side
leaves_by k d z = cond (facing k d && z == 2) Branch (towards d)

abbrev pub exit_of : Layout → Direction → ℕ → Port
exit_of l d e = record { component = e / 4; side = leaves_by (l.kind (e / 4)) d (e % 4) }

-- the root of a switch: the plain port that faces away from its branch
abbrev pub root : Direction → Side
root East = WestSide
root West = EastSide

-- how a switch lies that is entered by a port other than its root: reverse exactly where that port is its branch
abbrev pub trailing : Side → ℕ
trailing WestSide = 1
trailing EastSide = 1
trailing Branch = 2

-- how a component may lie that is entered by such a port: a switch that is entered at its root either way, another as
-- that port demands
abbrev pub MayLie : Kind → Side → ℕ → Type 0
MayLie (Signal s) p z = z ≡ 0
MayLie (Switch b) p z = cond (same_side p (root b)) ((z ≡ 1) ⊎ (z ≡ 2)) (z ≡ trailing p)
MayLie Straight p z = z ≡ 0

-- the entry `e` is entered through the port; a blank is no port
abbrev pub Enters : Layout → Option Port → ℕ → Type 0
Enters l None e = ⊥
Enters l (Some p) e = (e / 4 ≡ p.component) × MayLie (l.kind p.component) p.side (e % 4)

-- travelling `d`, the entry `e'` comes next after `e`
abbrev pub Follows : Layout → Direction → ℕ → ℕ → Type 0
Follows l d e e' = Enters l (l.far (exit_of l d e)) e'

abbrev pub IsSignal : Kind → Type 0
IsSignal (Signal s) = Unit {0}
IsSignal (Switch b) = ⊥
IsSignal Straight = ⊥

-- the entry of a signal of the layout
abbrev pub Starts : Layout → ℕ → Type 0
Starts l e = (e % 4 ≡ 0) × (e / 4 < l.count) × IsSignal (l.kind (e / 4))

-- the direction of the first entry's signal, and the last entry
abbrev pub heading : Layout → List ℕ → Direction
heading l es = direction_of (l.kind (slice_index es 0 / 4))

abbrev pub last_of : List ℕ → ℕ
last_of es = slice_index es (length es - 1)

-- A path starts at a signal, each next entry follows the one before it in that signal's direction, and no component
-- comes twice.
pub record Path (l : Layout) (es : List ℕ) : Type 0 where
  pub some : 0 < length es
  pub starts : Starts l (slice_index es 0)
  pub follows : (i : ℕ) → i + 1 < length es → Follows l (heading l es) (slice_index es i) (slice_index es (i + 1))
  pub apart : (i j : ℕ) → i < j → j < length es → slice_index es i / 4 ≢ slice_index es j / 4

-- its end is a signal of the start's direction
abbrev pub Ends : Layout → List ℕ → Type 0
Ends l es = (2 ≤ length es) × (l.kind (last_of es / 4) ≡ Signal (heading l es))

abbrev pub Route : Layout → List ℕ → Type 0
Route l es = Path l es × Ends l es
