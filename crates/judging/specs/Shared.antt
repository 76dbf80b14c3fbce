-- How many components two rows have in common.
use Rattle.std.specs.Prelude.{ℕ, min, cond, ◌&&◌, List, Ok, Err, Result}
use Rattle.fault.specs.declared.kinds.BoxFault.{BoxFault}
use Rattle.fault.specs.declared.kinds.BoxFault.TheVariants.{NotARow}
use Rattle.sets.specs.Members.{sum_below}
use Rattle.row.specs.Row.{is_row, entries_of}
use Rattle.route.specs.Components.{on}

-- of the 512 component numbers, how many come in both lists
abbrev pub in_common : List ℕ → List ℕ → ℕ
in_common es fs = sum_below (λ c. min (on c es) (on c fs)) 512

abbrev pub told_shared : List ℕ → List ℕ → Result ℕ BoxFault
told_shared a b = cond (is_row a && is_row b) (Ok (in_common (entries_of a) (entries_of b))) (Err NotARow)
