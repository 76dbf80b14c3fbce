-- What a turn answers after the rows that were handed out, and what it leaves in the space.
use Rattle.std.specs.Prelude.{◌≡◌, ℕ, ◌<◌, ◌≤◌, List, ◌++◌, length, drop, Ok, Err, Option, Result}
use Rattle.fault.specs.declared.kinds.BoxFault.{BoxFault}
use Rattle.fault.specs.declared.kinds.BoxFault.TheVariants.{ShortSpace, Drained, RowsSpent}
use Rattle.plan.specs.Layout.{Layout}
use Rattle.row.specs.Row.{bytes_of}
use Rattle.register.specs.Routes.{NextRoute, AllOut}
use Rattle.frame.specs.Tests.{Passes, Test}

-- the row of the next route is longer than the space
abbrev pub TooLong : Layout → List (List ℕ) → List ℕ → Type 0
TooLong l rows space = (row : List ℕ) × NextRoute l rows row × (length space < length (bytes_of row))

abbrev pub Turning : Layout → List (List ℕ) → List ℕ → Option BoxFault → Type 0
Turning l rows space =
    Test Drained (AllOut l rows)
    (Test RowsSpent (65535 ≤ length rows)
    (Test ShortSpace (TooLong l rows space) Passes))

-- the row of the next route stands at the front of the space, and what stood behind it stays; a refusal leaves the
-- space as it was
abbrev pub Writes : Layout → List (List ℕ) → List ℕ → List ℕ → Result ℕ BoxFault → Type 0
Writes l rows space space' (Ok n) =
    (row : List ℕ) × NextRoute l rows row × (n ≡ length (bytes_of row)) × (space' ≡ bytes_of row ++ drop n space)
Writes l rows space space' (Err f) = space' ≡ space
