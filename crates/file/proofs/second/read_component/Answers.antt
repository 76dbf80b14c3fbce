use Rattle.std.proofs.Common.{rules}
use Rattle.file.proofs.Readings.{component_parts}
use Rattle.file.proofs.second.read_component.Goals as goal

pub returns-in_err-read_port : goal.returns-in_err-read_port
returns-in_err-read_port c = let e = component_parts c.args.file.now.bytes.now c.args.component in search rules

pub returns-in_err-read_port-2 : goal.returns-in_err-read_port-2
returns-in_err-read_port-2 c = let e = component_parts c.args.file.now.bytes.now c.args.component in search rules

pub returns-then-is_switch : goal.returns-then-is_switch
returns-then-is_switch c = let e = component_parts c.args.file.now.bytes.now c.args.component in search rules

pub returns-else-is_switch : goal.returns-else-is_switch
returns-else-is_switch c = let e = component_parts c.args.file.now.bytes.now c.args.component in search rules
