-- What a yes or a no tells.
use Rattle.std.specs.Prelude.{Bool, MatchBool}

-- yes exactly where it is so
abbrev pub Tells : Bool → Type 0 → Type 0
Tells told so = MatchBool told so (so → ⊥)
