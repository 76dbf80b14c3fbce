-- The last line of what is printed.
use Rattle.std.specs.Prelude.{ℕ, List}
use Rattle.lines.specs.declared.closing.Closing.{Closing}
use Rattle.lines.specs.declared.closing.Closing.TheVariants.{End, Full, Refused}
use Rattle.lines.specs.Lines.{end_line, full_line, refused_line}

abbrev pub closing_line : Closing → List ℕ
closing_line (End count) = end_line count
closing_line (Full count) = full_line count
closing_line (Refused number place) = refused_line number place
