-- The two readings of a file, as checks in file order.
use Rattle.std.specs.Prelude.{ℕ, ◌+◌, ◌*◌, Bool, cond, not, ◌&&◌, List, [], ◌++◌, length, Some, None, Ok, Err, Option, Result, ◌==◌, nat_le, nat_lt, slice_index}
use Rattle.fault.specs.declared.kinds.FileFault.{FileFault}
use Rattle.fault.specs.declared.kinds.FileFault.TheVariants.{CutOff, LeftOver, TooMany, WrongLetter}
use Rattle.fault.specs.declared.kinds.PlanFault.{PlanFault}
use Rattle.fault.specs.declared.kinds.PlanFault.TheVariants.{File, NoSuchPart, NotOpposed, NotNamedBack, BlankPort, WrongSwitchCount}
use Rattle.numbers.specs.Stored.{number}
use Rattle.plan.specs.declared.parts.Side.TheVariants.{West as WestSide, East as EastSide, Branch}
use Rattle.plan.specs.declared.parts.Port.{Port}
use Rattle.plan.specs.Layout.{is_switch, is_port, opposed, port}
use Rattle.plan.specs.Letters.{is_letter}
use Rattle.file.specs.declared.sorts.Sort.{Sort}
use Rattle.file.specs.declared.sorts.Sort.TheVariants.{Signal, Switch, Straight, PointSection}
use Rattle.file.specs.Members.{members}
use Rattle.file.specs.Checks.{Check, check, first_failing, each, then}
use Rattle.file.specs.Contents.{signal_count, switches_at, switch_count, straights_at, straight_count, sections_at, section_count, end_of, components, place, kind_of, section_of, port_code, port_of, field_at, stored, layout_of}

-- First reading: the records of each section and their letters.

abbrev pub size : Sort → ℕ
size Signal = 5
size Switch = 9
size Straight = 4
size PointSection = 2

-- where in a record its letter stands
abbrev pub letter_in : Sort → Option ℕ
letter_in Signal = Some 4
letter_in Switch = Some 6
letter_in Straight = None
letter_in PointSection = None

abbrev pub letter_checks : List ℕ → ℕ → Option ℕ → List (Check FileFault)
letter_checks s at None = []
letter_checks s at (Some k) = check (is_letter (slice_index s (at + k))) (WrongLetter (at + k))

abbrev pub record_checks : List ℕ → ℕ → Sort → List (Check FileFault)
record_checks s at k = check (nat_le (at + size k) (length s)) (CutOff at) ++ letter_checks s at (letter_in k)

-- the record with a number, of those from a place on
abbrev pub nth_record : List ℕ → ℕ → Sort → ℕ → List (Check FileFault)
nth_record s from k i = record_checks s (from + size k * i) k

-- a section at a place, with n records of a sort, after so many of those that it is counted with
unfoldable pub section_checks : List ℕ → ℕ → ℕ → ℕ → Sort → List (Check FileFault)
section_checks s at before n k =
    check (nat_le (at + 2) (length s)) (CutOff at) ++ (check (nat_le (before + n) 512) (TooMany at) ++ each n (nth_record s (at + 2) k))

unfoldable pub signal_section : List ℕ → List (Check FileFault)
signal_section s = section_checks s 0 0 (signal_count s) Signal

unfoldable pub switch_section : List ℕ → List (Check FileFault)
switch_section s = section_checks s (switches_at s) (signal_count s) (switch_count s) Switch

unfoldable pub straight_section : List ℕ → List (Check FileFault)
straight_section s = section_checks s (straights_at s) (signal_count s + switch_count s) (straight_count s) Straight

unfoldable pub point_sections : List ℕ → List (Check FileFault)
point_sections s = section_checks s (sections_at s) 0 (section_count s) PointSection

abbrev pub rest : List ℕ → List (Check FileFault)
rest s = check (nat_le (length s) (end_of s)) (LeftOver (end_of s))

unfoldable pub first_reading : List ℕ → List (Check FileFault)
first_reading s = signal_section s ++ (switch_section s ++ (straight_section s ++ (point_sections s ++ rest s)))

-- Second reading: the fields of each record.

abbrev pub is_blank : ℕ → Bool
is_blank n = n == 65535

-- where the field names a port
abbrev pub named_checks : List ℕ → Port → Port → List (Check PlanFault)
named_checks s p q =
    check (is_port (layout_of s) q) (NoSuchPart (field_at s p))
    ++ (check (opposed (layout_of s) p q) (NotOpposed (field_at s p))
    ++ check (stored s q == port_code p) (NotNamedBack (field_at s p)))

-- where no port has the code that the field stores
abbrev pub unnamed_checks : List ℕ → Port → List (Check PlanFault)
unnamed_checks s p = check (is_blank (stored s p)) (NoSuchPart (field_at s p))

abbrev pub far_checks : List ℕ → Port → Option Port → List (Check PlanFault)
far_checks s p None = unnamed_checks s p
far_checks s p (Some q) = named_checks s p q

unfoldable pub blank_check : List ℕ → Port → List (Check PlanFault)
blank_check s p = check (not (is_switch (kind_of s p.component) && is_blank (stored s p))) (BlankPort (field_at s p))

unfoldable pub field_checks : List ℕ → Port → List (Check PlanFault)
field_checks s p = far_checks s p (port_of (stored s p))

unfoldable pub port_checks : List ℕ → Port → List (Check PlanFault)
port_checks s p = blank_check s p ++ field_checks s p

unfoldable pub switch_checks : List ℕ → ℕ → List (Check PlanFault)
switch_checks s c =
    port_checks s (port c Branch)
    ++ check (nat_lt (section_of s c) (section_count s)) (NoSuchPart (place s c + 7))

unfoldable pub component_checks : List ℕ → ℕ → List (Check PlanFault)
component_checks s c =
    port_checks s (port c WestSide)
    ++ (port_checks s (port c EastSide)
    ++ cond (is_switch (kind_of s c)) (switch_checks s c) [])

abbrev pub record_at : List ℕ → ℕ → ℕ
record_at s k = sections_at s + 2 + 2 * k

unfoldable pub section_check : List ℕ → ℕ → List (Check PlanFault)
section_check s k =
    check (not (number s (record_at s k) == 0) && number s (record_at s k) == members (layout_of s) k) (WrongSwitchCount (record_at s k))

abbrev pub component_fields : List ℕ → List (Check PlanFault)
component_fields s = each (components s) (component_checks s)

abbrev pub section_fields : List ℕ → List (Check PlanFault)
section_fields s = each (section_count s) (section_check s)

unfoldable pub second_reading : List ℕ → List (Check PlanFault)
second_reading s = component_fields s ++ section_fields s

-- Looking over a file: the second reading is made only after the first has come to the end.

abbrev pub carried : Result (Unit {0}) FileFault → Result (Unit {0}) PlanFault
carried (Ok u) = Ok u
carried (Err e) = Err (File e)

unfoldable pub look : List ℕ → Result (Unit {0}) PlanFault
look s = then (carried (first_failing (first_reading s))) (first_failing (second_reading s))
