-- Numbers in decimal, as characters.
use Rattle.std.specs.Prelude.{ℕ, zero, suc, ◌+◌, ◌/◌, ◌%◌, cond, List, [], ◌∷◌, ◌++◌, nat_lt}

-- the character of a digit
abbrev pub digit : ℕ → ℕ
digit d = 48 + d

-- a number below 10 is one digit; any other has the digits of its tenth, and then its last
unfoldable pub digits : ℕ → ℕ → List ℕ
digits zero n = []
digits (suc steps) n = cond (nat_lt n 10) (digit n ∷ []) (digits steps (n / 10) ++ (digit (n % 10) ∷ []))

-- `n` has at most `n + 1` digits
unfoldable pub decimal : ℕ → List ℕ
decimal n = digits (suc n) n
