-- A row is a count, then that many entries, every number two bytes long.
-- An entry is 4 times a component, plus 1 where that is a switch lying normal, or 2 where it lies reverse.
use Rattle.std.specs.Prelude.{ℕ, zero, suc, ◌+◌, ◌*◌, ◌%◌, Bool, true, ◌&&◌, List, [], ◌∷◌, ◌++◌, length, ◌==◌, nat_le, nat_lt}
use Rattle.numbers.specs.Stored.{number, word}

abbrev pub entry_ok : ℕ → Bool
entry_ok e = nat_lt e 2048 && nat_lt (e % 4) 3

unfoldable pub all_ok : List ℕ → Bool
all_ok [] = true
all_ok (e ∷ es) = entry_ok e && all_ok es

-- the entries that a row can hold
abbrev pub is_entries : List ℕ → Bool
is_entries es = nat_le 2 (length es) && (nat_le (length es) 512 && all_ok es)

unfoldable pub words : List ℕ → List ℕ
words [] = []
words (e ∷ es) = word e ++ words es

-- the bytes of the row with these entries
abbrev pub bytes_of : List ℕ → List ℕ
bytes_of es = word (length es) ++ words es

-- the `n` numbers that stand from place `p` on
unfoldable pub numbers_from : List ℕ → ℕ → ℕ → List ℕ
numbers_from s p zero = []
numbers_from s p (suc n) = number s p ∷ numbers_from s (p + 2) n

-- the entries that bytes hold, as many as the count says
unfoldable pub entries_of : List ℕ → List ℕ
entries_of s = numbers_from s 2 (number s 0)

-- bytes that have the shape of a row
abbrev pub is_row : List ℕ → Bool
is_row s = length s == 2 + 2 * number s 0 && is_entries (entries_of s)
