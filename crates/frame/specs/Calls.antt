-- The conditions under which the calls of a frame are refused, in the order of their tests.
use Rattle.std.specs.Prelude.{◌≡◌, ℕ, ◌/◌, ◌%◌, ◌<◌, true, List, [], length, Option, slice_index, slice_index_or}
use Rattle.fault.specs.declared.kinds.BoxFault.{BoxFault}
use Rattle.fault.specs.declared.kinds.BoxFault.TheVariants.{Plan, NoSuchSection, Conflict, OtherPosition, Occupied, FrameFull, SlipsSpent, UnknownSlip}
use Rattle.fault.specs.declared.kinds.PlanFault.TheVariants.{NoSuchPart}
use Rattle.plan.specs.declared.parts.Position.{Position}
use Rattle.plan.specs.declared.parts.Position.TheVariants.{Normal, Reverse}
use Rattle.plan.specs.Layout.{Layout, is_switch}
use Rattle.row.specs.Row.{entries_of}
use Rattle.frame.specs.Book.{Book, OpenRow}
use Rattle.frame.specs.Sections.{Watches, IsSection}
use Rattle.frame.specs.Tests.{Passes, Test, Judging}

-- a switch of the layout
abbrev pub IsSwitch : Layout → ℕ → Type 0
IsSwitch l c = (c < l.count) × (is_switch (l.kind c) ≡ true)

-- the component is on the row with these entries
abbrev pub OnRow : List ℕ → ℕ → Type 0
OnRow es c = (i : ℕ) × (i < length es) × (slice_index es i / 4 ≡ c)

abbrev pub no_row : OpenRow
no_row = record { serial = 0; entries = [] }

-- the component is on an open row
abbrev pub Held : List OpenRow → ℕ → Type 0
Held rs c = (k : ℕ) × (k < length rs) × OnRow (slice_index_or rs k no_row).entries c

-- the row has a component in common with an open row
abbrev pub Conflicts : List OpenRow → List ℕ → Type 0
Conflicts rs es = (i : ℕ) × (i < length es) × Held rs (slice_index es i / 4)

-- an entry wants its switch another way than it lies: 1 stands for normal, 2 for reverse
abbrev pub Against : Position → ℕ → Type 0
Against Normal z = z ≡ 2
Against Reverse z = z ≡ 1

abbrev pub LiesOtherwise : Book → List ℕ → Type 0
LiesOtherwise b es = (i : ℕ) × (i < length es) × Against (b.position (slice_index es i / 4)) (slice_index es i % 4)

-- a component's section is occupied
abbrev pub OnOccupied : Layout → Book → ℕ → Type 0
OnOccupied l b c = (n : ℕ) × Watches l n c × (b.occupied n ≡ true)

abbrev pub RunsOccupied : Layout → Book → List ℕ → Type 0
RunsOccupied l b es = (i : ℕ) × (i < length es) × OnOccupied l b (slice_index es i / 4)

-- a serial is that of an open row
abbrev pub IsOpen : List OpenRow → ℕ → Type 0
IsOpen rs s = (k : ℕ) × (k < length rs) × ((slice_index_or rs k no_row).serial ≡ s)

-- occupying and clearing a section
abbrev pub Marking : Layout → ℕ → Option BoxFault → Type 0
Marking l n = Test NoSuchSection (IsSection l n → ⊥) Passes

-- throwing a switch; what is none is refused with the plan's own fault
abbrev pub Throwing : Layout → Book → ℕ → Option BoxFault → Type 0
Throwing l b c =
    Test (Plan (NoSuchPart 0)) (IsSwitch l c → ⊥)
    (Test Conflict (Held b.opened c)
    (Test Occupied (OnOccupied l b c) Passes))

-- a route's entries against what stands on the frame
abbrev pub Standing : Layout → Book → List ℕ → Option BoxFault → Type 0
Standing l b es =
    Test Conflict (Conflicts b.opened es)
    (Test OtherPosition (LiesOtherwise b es)
    (Test Occupied (RunsOccupied l b es)
    (Test FrameFull (length b.opened ≡ 8)
    (Test SlipsSpent (b.given ≡ 65535) Passes))))

-- opening a row, given as bytes
abbrev pub Opening : Layout → Book → List ℕ → Option BoxFault → Type 0
Opening l b s = Judging l s (Standing l b (entries_of s))

-- releasing the slip of a serial
abbrev pub Releasing : Book → ℕ → Option BoxFault → Type 0
Releasing b s = Test UnknownSlip (IsOpen b.opened s → ⊥) Passes
