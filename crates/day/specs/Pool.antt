-- The pool of slips at hand, by their serials.
use Rattle.std.specs.Prelude.{ℕ, List, [], ◌∷◌, ◌++◌, map, Ok, Err, Result, slice_index}
use Rattle.std.specs.List.{remove}
use Rattle.fault.specs.declared.kinds.BoxFault.{BoxFault}
use Rattle.frame.specs.declared.slip.Slip.{Slip}

abbrev pub serials : List Slip → List ℕ
serials ss = map (λ s. s.serial) ss

-- a slip that an opening gave comes last
abbrev pub with_given : List ℕ → Result ℕ BoxFault → List ℕ
with_given p (Ok n) = p ++ n ∷ []
with_given p (Err f) = p

-- a slip that a release brought is gone, or comes last where it was handed back
abbrev pub with_brought : List ℕ → ℕ → Result (Unit {0}) BoxFault → List ℕ
with_brought p k (Ok u) = remove p k
with_brought p k (Err f) = remove p k ++ slice_index p k ∷ []
