use Rattle.std.proofs.Common.{rules}
use Rattle.file.specs.Readings.{signal_section}
use Rattle.file.proofs.first.read_signals.Goals as goal

pub returns : goal.returns
unfolding signal_section
returns c = search rules
