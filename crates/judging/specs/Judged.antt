-- What judging a row answers.
use Rattle.std.specs.Prelude.{◌≡◌, ℕ, ◌+◌, ◌/◌, ◌<◌, ◌≤◌, true, false, ◌⊎◌, List, length, take, Some, None, Ok, Err, Option, Result, slice_index}
use Rattle.fault.specs.declared.kinds.BoxFault.{BoxFault}
use Rattle.fault.specs.declared.kinds.BoxFault.TheVariants.{Plan, NoSuchSection, ShortSpace, Drained, RowsSpent, NotARow, NoRoute, Conflict, OtherPosition, Occupied, FrameFull, SlipsSpent, UnknownSlip}
use Rattle.plan.specs.declared.parts.Direction.{Direction}
use Rattle.plan.specs.declared.parts.Kind.TheVariants.{Signal}
use Rattle.plan.specs.Layout.{Layout}
use Rattle.row.specs.Row.{is_row, entries_of}
use Rattle.route.specs.Paths.{Starts, Path, Ends, Route}
use Rattle.route.specs.Growth.{May, Begun}

-- the direction in which a path from the entry travels, or that none starts so
abbrev pub StartAt : Layout → ℕ → Option Direction → Type 0
StartAt l e None = Starts l e → ⊥
StartAt l e (Some d) = Starts l e × (l.kind (e / 4) ≡ Signal d)

-- the first `k` entries have grown to a path, and the entry after them does not go on from there
pub record Walked (l : Layout) (es : List ℕ) (k : ℕ) : Type 0 where
  pub within : k ≤ length es
  pub begun : Begun l (take k es)
  pub stops : k < length es → May l (take k es) (slice_index es k) → ⊥

-- the entry `k` is the first that no path has after the entries before it; or all are a path, `k` is their number, and
-- the end is wrong
abbrev pub FailsAt : Layout → List ℕ → ℕ → Type 0
FailsAt l es k =
    ((k < length es) × ((j : ℕ) → 0 < j → j ≤ k → Path l (take j es)) × (Path l (take (k + 1) es) → ⊥))
    ⊎ ((k ≡ length es) × Path l es × (Ends l es → ⊥))

abbrev pub Judged : Layout → List ℕ → Result (Unit {0}) BoxFault → Type 0
Judged l s (Ok u) = (is_row s ≡ true) × Route l (entries_of s)
Judged l s (Err NotARow) = is_row s ≡ false
Judged l s (Err (NoRoute k)) = (is_row s ≡ true) × FailsAt l (entries_of s) k
Judged l s (Err (Plan e)) = ⊥
Judged l s (Err NoSuchSection) = ⊥
Judged l s (Err ShortSpace) = ⊥
Judged l s (Err Drained) = ⊥
Judged l s (Err RowsSpent) = ⊥
Judged l s (Err Conflict) = ⊥
Judged l s (Err OtherPosition) = ⊥
Judged l s (Err Occupied) = ⊥
Judged l s (Err FrameFull) = ⊥
Judged l s (Err SlipsSpent) = ⊥
Judged l s (Err UnknownSlip) = ⊥
