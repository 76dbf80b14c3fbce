-- The printed lines.
use Rattle.std.specs.Prelude.{ℕ, cond, List, [], ◌∷◌, ◌++◌, Some, None, Err, codes, Option, Result}
use Rattle.fault.specs.declared.kinds.BoxFault.{BoxFault}
use Rattle.fault.specs.declared.kinds.BoxFault.TheVariants.{NotARow}
use Rattle.plan.specs.declared.parts.Position.{Position}
use Rattle.plan.specs.declared.parts.Position.TheVariants.{Normal, Reverse}
use Rattle.entry.specs.Lies.{component_of, lie_of}
use Rattle.row.specs.Put.{text_told, text_left}
use Rattle.row.specs.Row.{is_row, entries_of}
use Rattle.lines.specs.Decimal.{decimal}

-- the letter behind a switch, by how it lies
abbrev pub letter : Option Position → List ℕ
letter None = []
letter (Some Normal) = codes "N"
letter (Some Reverse) = codes "R"

-- an entry's component, and how it lies
unfoldable pub shown : ℕ → List ℕ
shown e = decimal (component_of e) ++ letter (lie_of e)

-- what stands behind an entry: a space, or behind the last the end of the line
abbrev pub stop : List ℕ → ℕ
stop [] = 10
stop (e ∷ es) = 32

unfoldable pub row_line : List ℕ → List ℕ
row_line [] = []
row_line (e ∷ es) = shown e ++ (stop es ∷ row_line es)

abbrev pub end_line : ℕ → List ℕ
end_line count = codes "end " ++ (decimal count ++ (10 ∷ []))

abbrev pub full_line : ℕ → List ℕ
full_line count = codes "full " ++ (decimal count ++ (10 ∷ []))

abbrev pub refused_line : ℕ → ℕ → List ℕ
refused_line number place = codes "refused " ++ (decimal number ++ (32 ∷ (decimal place ++ (10 ∷ []))))

-- what a call that writes the line of the row `b` into the space `s` answers, and what it leaves there
abbrev pub row_line_told : List ℕ → List ℕ → Result ℕ BoxFault
row_line_told b s = cond (is_row b) (text_told (row_line (entries_of b)) s) (Err NotARow)

abbrev pub row_line_left : List ℕ → List ℕ → List ℕ
row_line_left b s = cond (is_row b) (text_left (row_line (entries_of b)) s) s
