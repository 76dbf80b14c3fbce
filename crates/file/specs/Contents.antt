-- What the bytes of a file say: its counts, where its records and fields stand, and the layout.
use Rattle.std.specs.Prelude.{ℕ, ◌+◌, ◌-◌, ◌*◌, ◌/◌, ◌%◌, Bool, cond, ◌&&◌, List, Some, None, Option, ◌==◌, nat_lt, slice_index}
use Rattle.numbers.specs.Stored.{number}
use Rattle.plan.specs.declared.parts.Kind.{Kind}
use Rattle.plan.specs.declared.parts.Kind.TheVariants.{Signal, Switch, Straight}
use Rattle.plan.specs.declared.parts.Side.{Side}
use Rattle.plan.specs.declared.parts.Side.TheVariants.{West as WestSide, East as EastSide, Branch}
use Rattle.plan.specs.declared.parts.Port.{Port}
use Rattle.plan.specs.Layout.{Layout, has_side, port}
use Rattle.plan.specs.Letters.{direction_at}

-- A count stands before each section.
unfoldable pub signal_count : List ℕ → ℕ
signal_count s = number s 0

abbrev pub switches_at : List ℕ → ℕ
switches_at s = 2 + 5 * signal_count s

unfoldable pub switch_count : List ℕ → ℕ
switch_count s = number s (switches_at s)

abbrev pub straights_at : List ℕ → ℕ
straights_at s = switches_at s + 2 + 9 * switch_count s

unfoldable pub straight_count : List ℕ → ℕ
straight_count s = number s (straights_at s)

abbrev pub sections_at : List ℕ → ℕ
sections_at s = straights_at s + 2 + 4 * straight_count s

unfoldable pub section_count : List ℕ → ℕ
section_count s = number s (sections_at s)

abbrev pub end_of : List ℕ → ℕ
end_of s = sections_at s + 2 + 2 * section_count s

abbrev pub components : List ℕ → ℕ
components s = signal_count s + switch_count s + straight_count s

-- where the record of a component stands
abbrev pub place : List ℕ → ℕ → ℕ
place s c =
    cond (nat_lt c (signal_count s)) (2 + 5 * c)
    (cond (nat_lt c (signal_count s + switch_count s)) (switches_at s + 2 + 9 * (c - signal_count s))
    (straights_at s + 2 + 4 * (c - (signal_count s + switch_count s))))

abbrev pub kind_of : List ℕ → ℕ → Kind
kind_of s c =
    cond (nat_lt c (signal_count s)) (Signal (direction_at (slice_index s (place s c + 4))))
    (cond (nat_lt c (signal_count s + switch_count s)) (Switch (direction_at (slice_index s (place s c + 6)))) Straight)

-- the point section in a switch's record
abbrev pub section_of : List ℕ → ℕ → ℕ
section_of s c = number s (place s c + 7)

abbrev pub side_number : Side → ℕ
side_number WestSide = 0
side_number EastSide = 1
side_number Branch = 2

abbrev pub port_code : Port → ℕ
port_code p = 4 * p.component + side_number p.side

-- The port with the code, if a port can have it.  That of a blank, 65535, is no port's.
abbrev pub port_of : ℕ → Option Port
port_of n =
    cond (n % 4 == 0) (Some (port (n / 4) WestSide))
    (cond (n % 4 == 1) (Some (port (n / 4) EastSide))
    (cond (n % 4 == 2) (Some (port (n / 4) Branch)) None))

-- where a port's record names its far port
abbrev pub field_at : List ℕ → Port → ℕ
field_at s p = place s p.component + 2 * side_number p.side

abbrev pub stored : List ℕ → Port → ℕ
stored s p = number s (field_at s p)

abbrev pub port_in : List ℕ → Port → Bool
port_in s p = nat_lt p.component (components s) && has_side (kind_of s p.component) p.side

abbrev pub far_of : List ℕ → Port → Option Port
far_of s p = cond (port_in s p) (port_of (stored s p)) None

abbrev pub layout_of : List ℕ → Layout
layout_of s = record { count = components s; kind = kind_of s; section = section_of s; far = far_of s }
