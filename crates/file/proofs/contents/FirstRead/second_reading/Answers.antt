use Rattle.std.proofs.Common.{rules}
use Rattle.file.proofs.Readings.{second_parts}
use Rattle.file.proofs.contents.FirstRead.second_reading.Goals as goal

pub returns-in_err-read_components : goal.returns-in_err-read_components
returns-in_err-read_components c = let e = second_parts c.args.self.now.file.bytes.now in search rules

pub returns : goal.returns
returns c = let e = second_parts c.args.self.now.file.bytes.now in search rules
