-- A blank is no port and matches no blank.
use Rattle.std.specs.Prelude.{◌≡◌, true, Some, None, Ok, ◌≢◌}
use Rattle.plan.specs.declared.parts.Port.{Port}
use Rattle.plan.specs.Layout.{Layout, Lawful, told_connected}

-- In every lawful layout two ports are connected exactly where each one names the other; and a port that names
-- none is connected to no port at all.
abbrev pub BlanksMatchNothing : Type 0
BlanksMatchNothing = (l : Layout) → Lawful l → (a b : Port) →
    (told_connected l a b ≡ Ok true → (l.far a ≡ Some b) × (l.far b ≡ Some a))
    × (l.far a ≡ Some b → told_connected l a b ≡ Ok true)
    × (l.far a ≡ None → told_connected l a b ≢ Ok true)
