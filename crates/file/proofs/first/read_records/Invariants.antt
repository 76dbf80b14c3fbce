use Rattle.std.proofs.Common.{◌≡◌, Ok}
use Rattle.file.specs.Checks.{first_failing, each}
use Rattle.file.specs.Readings.{nth_record}
use Rattle.file.proofs.first.read_records.Given as goal

abbrev pub invariant-loop-i : goal.invariant-loop-i
invariant-loop-i l = first_failing (each l.i (nth_record l.bytes l.from l.sort)) ≡ Ok tt
