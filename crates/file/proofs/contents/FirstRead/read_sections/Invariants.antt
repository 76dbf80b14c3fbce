use Rattle.std.proofs.Common.{◌≡◌, Ok}
use Rattle.file.specs.Checks.{first_failing, each}
use Rattle.file.specs.Readings.{section_check}
use Rattle.file.proofs.contents.FirstRead.read_sections.Given as goal

abbrev pub invariant-loop-section : goal.invariant-loop-section
invariant-loop-section l = first_failing (each l.section (section_check l.self.file.bytes.now)) ≡ Ok tt
