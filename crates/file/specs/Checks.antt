-- Checks made one after the other; the first that fails is told.
use Rattle.std.specs.Prelude.{ℕ, zero, suc, Bool, cond, List, [], ◌∷◌, ◌++◌, Ok, Err, Result}

pub record Check (F : Type 0) : Type 0 where
  pub passes : Bool
  pub fault : F

abbrev pub check : {F : Type 0} → Bool → F → List (Check F)
check b e = record { passes = b; fault = e } ∷ []

abbrev pub first_failing : {F : Type 0} → List (Check F) → Result (Unit {0}) F
first_failing [] = Ok tt
first_failing (c ∷ cs) = cond c.passes (first_failing cs) (Err c.fault)

-- the checks of the things 0 to n - 1
unfoldable pub each : {F : Type 0} → ℕ → (ℕ → List (Check F)) → List (Check F)
each zero f = []
each (suc n) f = each n f ++ f n

-- the one result, and the other where it is in order
abbrev pub then : {F : Type 0} → Result (Unit {0}) F → Result (Unit {0}) F → Result (Unit {0}) F
then (Ok u) r = r
then (Err e) r = Err e
