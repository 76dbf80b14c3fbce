use Rattle.std.proofs.Common.{rules}
use Rattle.file.specs.Readings.{point_sections}
use Rattle.file.proofs.first.read_sections.Goals as goal

pub returns : goal.returns
unfolding point_sections
returns c = search rules
