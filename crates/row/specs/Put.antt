-- Text written into a space.
use Rattle.std.specs.Prelude.{ℕ, ◌+◌, cond, List, ◌++◌, length, take, drop, Ok, Err, Result, nat_lt}
use Rattle.fault.specs.declared.kinds.BoxFault.{BoxFault}
use Rattle.fault.specs.declared.kinds.BoxFault.TheVariants.{ShortSpace}

-- the space `s` after `t` was written at place `p`; what stands before and after stays
unfoldable pub put : List ℕ → ℕ → List ℕ → List ℕ
put s p t = take p s ++ (t ++ drop (p + length t) s)

-- what a call that writes `t` at the front of the space `s` answers: how long it is
abbrev pub text_told : List ℕ → List ℕ → Result ℕ BoxFault
text_told t s = cond (nat_lt (length s) (length t)) (Err ShortSpace) (Ok (length t))

-- what the space holds then: the text, and behind it what was there; where it is too short, all as it was
abbrev pub text_left : List ℕ → List ℕ → List ℕ
text_left t s = cond (nat_lt (length s) (length t)) s (t ++ drop (length t) s)
