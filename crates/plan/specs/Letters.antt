-- The letters that stand for directions.
use Rattle.std.specs.Prelude.{ℕ, Bool, cond, ◌||◌, Ok, Err, Result, ◌==◌}
use Rattle.plan.specs.declared.parts.Direction.{Direction}
use Rattle.plan.specs.declared.parts.Direction.TheVariants.{East, West}
use Rattle.plan.specs.declared.parts.WrongLetter.{WrongLetter}

-- the byte of E or W
abbrev pub is_letter : ℕ → Bool
is_letter b = b == 69 || b == 87

abbrev pub direction_at : ℕ → Direction
direction_at b = cond (b == 69) East West

abbrev pub told_direction : ℕ → Result Direction WrongLetter
told_direction b = cond (is_letter b) (Ok (direction_at b)) (Err record {})
