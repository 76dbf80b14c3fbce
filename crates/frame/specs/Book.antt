-- What is written of a frame: how its switches lie, which sections are occupied, which rows are open, and how many slips
-- were given.
use Rattle.std.specs.Prelude.{ℕ, ◌+◌, Bool, false, cond, List, [], ◌∷◌, ◌++◌, ◌==◌}
use Rattle.plan.specs.declared.parts.Position.{Position}
use Rattle.plan.specs.declared.parts.Position.TheVariants.{Normal}

-- an open row, under the serial of its slip
pub record OpenRow : Type 0 where
  pub serial : ℕ
  pub entries : List ℕ

-- switches go by component, sections by section number
pub record Book : Type 0 where
  pub position : ℕ → Position
  pub occupied : ℕ → Bool
  pub opened : List OpenRow
  pub given : ℕ

-- of a new frame: all switches normal, all sections clear, no route open
abbrev pub fresh : Book
fresh = record { position = λ c. Normal; occupied = λ n. false; opened = []; given = 0 }

-- with a switch laid anew
abbrev pub laid : Book → ℕ → Position → Book
laid b c p = record { position = λ x. cond (x == c) p (b.position x); occupied = b.occupied; opened = b.opened; given = b.given }

-- with a section marked occupied, or clear
abbrev pub marked : Book → ℕ → Bool → Book
marked b n m = record { position = b.position; occupied = λ x. cond (x == n) m (b.occupied x); opened = b.opened; given = b.given }

-- with one open row more, and one slip more given
abbrev pub opened_with : Book → ℕ → List ℕ → Book
opened_with b s es =
    record { position = b.position; occupied = b.occupied; opened = b.opened ++ record { serial = s; entries = es } ∷ []; given = b.given + 1 }

-- the rows without the one of a serial
abbrev pub struck : ℕ → List OpenRow → List OpenRow
struck s [] = []
struck s (r ∷ rs) = cond (r.serial == s) rs (r ∷ struck s rs)

-- without the open row of a serial
abbrev pub closed_at : Book → ℕ → Book
closed_at b s = record { position = b.position; occupied = b.occupied; opened = struck s b.opened; given = b.given }
