use Rattle.std.proofs.Common.{rules}
use Rattle.file.specs.Readings.{switch_section}
use Rattle.file.proofs.first.read_switches.Goals as goal

pub returns : goal.returns
unfolding switch_section
returns c = search rules
