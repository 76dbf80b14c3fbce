-- What is written into a line.
use Rattle.std.specs.Prelude.{◌≡◌, ℕ, ◌+◌, ◌≤◌, List, length}
use Rattle.row.specs.Put.{put}
use Rattle.lines.specs.declared.line.Line.{Line}

-- there is room for the text
abbrev pub HasRoom : Line → List ℕ → Type 0
HasRoom l t = l.at + length t ≤ length l.space.now

-- the text was written at the place, in the same space, and the next place is behind it
pub record Written (before after : Line) (t : List ℕ) : Type 0 where
  pub left : after.space.now ≡ put before.space.now before.at t
  pub next : after.at ≡ before.at + length t
  pub held : after.space.ghost_name ≡ before.space.ghost_name
