-- What a frame holds, as a book.
use Rattle.std.specs.Prelude.{ℕ, ◌-◌, Bool, cond, List, map, ◌==◌, nat_lt}
use Rattle.plan.specs.declared.parts.Position.{Position}
use Rattle.plan.specs.declared.parts.Position.TheVariants.{Normal, Reverse}
use Rattle.sets.specs.declared.set.ComponentSet.{ComponentSet}
use Rattle.sets.specs.Members.{has}
use Rattle.row.specs.View.{entries}
use Rattle.frame.specs.declared.sections.Sections.{Sections}
use Rattle.frame.specs.declared.open_route.OpenRoute.{OpenRoute}
use Rattle.frame.specs.declared.frame.Frame.{Frame}
use Rattle.frame.specs.Book.{Book, OpenRow}

abbrev pub is_in : ComponentSet → ℕ → Bool
is_in s c = has s c == 1

-- a switch lies reverse where the set has it, else normal
abbrev pub position_in : ComponentSet → ℕ → Position
position_in s c = cond (is_in s c) Reverse Normal

-- numbers below 512 are straight sections, the others point sections
abbrev pub occupied_in : Sections → ℕ → Bool
occupied_in s n = cond (nat_lt n 512) (is_in s.straights n) (is_in s.points (n - 512))

abbrev pub open_row : OpenRoute → OpenRow
open_row r = record { serial = r.serial; entries = entries r.row }

abbrev pub open_rows : List OpenRoute → List OpenRow
open_rows rs = map open_row rs

abbrev pub view : Frame → Book
view f =
    record {
      position = position_in f.reversed;
      occupied = occupied_in f.occupied;
      opened = open_rows f.routes.items;
      given = f.given;
    }
