use Rattle.std.proofs.Common.{rules}
use Rattle.file.proofs.Readings.{first_parts}
use Rattle.file.proofs.first.first_reading.Goals as goal

pub returns-in_err-read_signals : goal.returns-in_err-read_signals
returns-in_err-read_signals c = let e = first_parts c.args.file.now.bytes.now in search rules

pub returns-in_err-read_switches : goal.returns-in_err-read_switches
returns-in_err-read_switches c = let e = first_parts c.args.file.now.bytes.now in search rules

pub returns-in_err-read_straights : goal.returns-in_err-read_straights
returns-in_err-read_straights c = let e = first_parts c.args.file.now.bytes.now in search rules

pub returns-in_err-read_sections : goal.returns-in_err-read_sections
returns-in_err-read_sections c = let e = first_parts c.args.file.now.bytes.now in search rules

pub returns : goal.returns
returns c = let e = first_parts c.args.file.now.bytes.now in search rules
