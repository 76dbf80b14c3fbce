use Rattle.std.proofs.Common.{rules}
use Rattle.file.specs.Readings.{section_check}
use Rattle.file.proofs.contents.FirstRead.read_section.Goals as goal

pub returns-then-count-members : goal.returns-then-count-members
unfolding section_check
returns-then-count-members c = search rules

pub returns-else-count-ne0 : goal.returns-else-count-ne0
unfolding section_check
returns-else-count-ne0 c = search rules
