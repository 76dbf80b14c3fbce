use Rattle.std.proofs.Common.{rules}
use Rattle.file.specs.Readings.{blank_check}
use Rattle.file.proofs.second.read_blank.Goals as goal

pub returns-then-stored : goal.returns-then-stored
unfolding blank_check
returns-then-stored c = search rules

pub returns : goal.returns
unfolding blank_check
returns c = search rules
