use Rattle.std.proofs.Common.{rules}
use Rattle.file.proofs.Readings.{port_parts}
use Rattle.file.proofs.second.read_port.Goals as goal

pub returns-in_err-read_blank : goal.returns-in_err-read_blank
returns-in_err-read_blank c = let e = port_parts c.args.file.now.bytes.now c.args.port in search rules

pub returns : goal.returns
returns c = let e = port_parts c.args.file.now.bytes.now c.args.port in search rules
