use Rattle.std.proofs.Common.{rules}
use Rattle.file.proofs.Readings.{switch_parts}
use Rattle.file.proofs.second.read_switch.Goals as goal

pub returns-in_err-read_port : goal.returns-in_err-read_port
returns-in_err-read_port c = let e = switch_parts c.args.file.now.bytes.now c.args.component in search rules

pub returns-then-section-file : goal.returns-then-section-file
returns-then-section-file c = let e = switch_parts c.args.file.now.bytes.now c.args.component in search rules

pub returns-else-section-file : goal.returns-else-section-file
returns-else-section-file c = let e = switch_parts c.args.file.now.bytes.now c.args.component in search rules
