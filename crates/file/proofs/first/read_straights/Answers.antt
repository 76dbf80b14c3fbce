use Rattle.std.proofs.Common.{rules}
use Rattle.file.specs.Readings.{straight_section}
use Rattle.file.proofs.first.read_straights.Goals as goal

pub returns : goal.returns
unfolding straight_section
returns c = search rules
