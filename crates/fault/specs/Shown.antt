-- What is printed of a fault.
use Rattle.std.specs.Prelude.{ℕ, List, ◌++◌, codes, decimal}
use Rattle.fault.specs.declared.kinds.Told.{Told}

-- its number and its place
abbrev pub told_text : Told → List ℕ
told_text told = decimal told.number ++ codes " at " ++ decimal told.place
