-- What a call that writes a row at the front of a space answers, and what it leaves there.
use Rattle.std.specs.Prelude.{ℕ, cond, List, Err, Result}
use Rattle.fault.specs.declared.kinds.BoxFault.{BoxFault}
use Rattle.fault.specs.declared.kinds.BoxFault.TheVariants.{NotARow}
use Rattle.row.specs.Put.{text_told, text_left}
use Rattle.row.specs.Row.{is_entries, bytes_of}

abbrev pub row_told : List ℕ → List ℕ → Result ℕ BoxFault
row_told es s = cond (is_entries es) (text_told (bytes_of es) s) (Err NotARow)

abbrev pub row_left : List ℕ → List ℕ → List ℕ
row_left es s = cond (is_entries es) (text_left (bytes_of es) s) s
