use Rattle.std.proofs.Common.{rules}
use Rattle.file.specs.Readings.{section_checks}
use Rattle.file.proofs.first.read_section.Goals as goal

pub returns-then-at-bytes : goal.returns-then-at-bytes
unfolding section_checks
returns-then-at-bytes c = search rules

pub returns-then-before-from-gt512 : goal.returns-then-before-from-gt512
unfolding section_checks
returns-then-before-from-gt512 c = search rules

pub returns : goal.returns
unfolding section_checks
returns c = search rules
