-- What is printed of a side.
use Rattle.std.specs.Prelude.{ℕ, List, codes}
use Rattle.plan.specs.declared.parts.Side.{Side}
use Rattle.plan.specs.declared.parts.Side.TheVariants.{West, East, Branch}

abbrev pub side_name : Side → List ℕ
side_name West = codes "west"
side_name East = codes "east"
side_name Branch = codes "branch"
