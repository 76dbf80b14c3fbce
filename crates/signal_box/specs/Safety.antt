-- What holds of the open routes and their slips at all times.
use Rattle.std.specs.Prelude.{◌≡◌, ℕ, ◌/◌, ◌%◌, ◌<◌, ◌≤◌, true, List, map, length, ◌≢◌, slice_index, slice_index_or}
use Rattle.plan.specs.declared.parts.Position.{Position}
use Rattle.plan.specs.declared.parts.Position.TheVariants.{Normal, Reverse}
use Rattle.plan.specs.Layout.{Layout, is_switch}
use Rattle.route.specs.Paths.{Route}
use Rattle.frame.specs.Book.{Book, OpenRow}
use Rattle.frame.specs.Calls.{OnRow, no_row}

-- the entries of the open row at a place, and its serial
abbrev pub row_at : List OpenRow → ℕ → List ℕ
row_at rs k = (slice_index_or rs k no_row).entries

abbrev pub serial_at : List OpenRow → ℕ → ℕ
serial_at rs k = (slice_index_or rs k no_row).serial

-- a switch lies as an entry has it: 1 stands for normal, 2 for reverse
abbrev pub LiesAs : Position → ℕ → Type 0
LiesAs Normal z = z ≡ 1
LiesAs Reverse z = z ≡ 2

pub record Safe (l : Layout) (b : Book) (out : List ℕ) : Type 0 where
  -- every open row is a route
  pub routes : (k : ℕ) → k < length b.opened → Route l (row_at b.opened k)
  -- no two open routes share a component
  pub apart : (i k : ℕ) → i < k → k < length b.opened → (c : ℕ) → OnRow (row_at b.opened i) c → OnRow (row_at b.opened k) c → ⊥
  -- each switch on an open route lies as its row says
  pub lies : (k i : ℕ) → k < length b.opened → i < length (row_at b.opened k) → is_switch (l.kind (slice_index (row_at b.opened k) i / 4)) ≡ true →
      LiesAs (b.position (slice_index (row_at b.opened k) i / 4)) (slice_index (row_at b.opened k) i % 4)
  -- the slips that are out are those of the open routes, one for each
  pub slips : out ≡ map (λ r. r.serial) b.opened
  pub distinct : (i k : ℕ) → i < k → k < length b.opened → serial_at b.opened i ≢ serial_at b.opened k
  pub given : (k : ℕ) → k < length b.opened → serial_at b.opened k ≤ b.given
