-- What a register has handed out, and what a turn does.
use Rattle.std.specs.Prelude.{◌≡◌, ℕ, ◌<◌, ◌≤◌, ◌⊎◌, List, [], ◌∷◌, ◌++◌, length, drop, Ok, Err, Result}
use Rattle.fault.specs.declared.kinds.BoxFault.{BoxFault}
use Rattle.fault.specs.declared.kinds.BoxFault.TheVariants.{Plan, NoSuchSection, ShortSpace, Drained, RowsSpent, NotARow, NoRoute, Conflict, OtherPosition, Occupied, FrameFull, SlipsSpent, UnknownSlip}
use Rattle.plan.specs.Layout.{Layout}
use Rattle.row.specs.Row.{bytes_of}
use Rattle.search.specs.View.{path_of}
use Rattle.register.specs.declared.registers.Register.{Register}
use Rattle.register.specs.Routes.{FirstRoutes, NextRoute, AllOut}

-- A register that stands at the entries has the next route before it, or none is left and it stands at none.
abbrev pub Stands : Layout → List (List ℕ) → List ℕ → Type 0
Stands l rows q = ((q ≡ []) × AllOut l rows) ⊎ ((0 < length q) × NextRoute l rows q)

-- The register has handed out exactly the rows since it was made or restarted: they are the first routes, and it
-- stands before the next one.
pub record Handed {P : Type 0} (l : Layout) (rows : List (List ℕ)) (g : Register P) : Type 0 where
  pub first : FirstRoutes l rows
  pub count : g.handed ≡ length rows
  pub stands : Stands l rows (path_of g.next)

-- What a turn does, after the rows that were handed out before it: the first case that applies.
abbrev pub Turned : {P : Type 0} → Layout → List (List ℕ) → List ℕ → List ℕ → Register P → Result ℕ BoxFault → Type 0
Turned l rows space space' g (Ok n) =
    (row : List ℕ) × NextRoute l rows row × (length rows < 65535) × (length (bytes_of row) ≤ length space)
    × (n ≡ length (bytes_of row)) × (space' ≡ bytes_of row ++ drop n space) × Handed l (rows ++ row ∷ []) g
Turned l rows space space' g (Err Drained) = AllOut l rows
Turned l rows space space' g (Err RowsSpent) = ((row : List ℕ) × NextRoute l rows row) × (length rows ≡ 65535)
Turned l rows space space' g (Err ShortSpace) =
    (row : List ℕ) × NextRoute l rows row × (length rows < 65535) × (length space < length (bytes_of row))
Turned l rows space space' g (Err (Plan e)) = ⊥
Turned l rows space space' g (Err NoSuchSection) = ⊥
Turned l rows space space' g (Err NotARow) = ⊥
Turned l rows space space' g (Err (NoRoute k)) = ⊥
Turned l rows space space' g (Err Conflict) = ⊥
Turned l rows space space' g (Err OtherPosition) = ⊥
Turned l rows space space' g (Err Occupied) = ⊥
Turned l rows space space' g (Err FrameFull) = ⊥
Turned l rows space space' g (Err SlipsSpent) = ⊥
Turned l rows space space' g (Err UnknownSlip) = ⊥
