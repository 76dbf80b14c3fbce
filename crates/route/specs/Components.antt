-- How often a component comes in a list of entries, and whether it comes.
use Rattle.std.specs.Prelude.{ℕ, ◌+◌, ◌/◌, min, cond, List, [], ◌∷◌, ◌==◌}

unfoldable pub times : ℕ → List ℕ → ℕ
times c [] = 0
times c (e ∷ es) = cond (c == e / 4) 1 0 + times c es

-- 1 where the component comes, else 0
abbrev pub on : ℕ → List ℕ → ℕ
on c es = min 1 (times c es)
