use Rattle.std.proofs.Common.{arith, rules}
use Rattle.row.proofs.Puts.{long_enough}
use Rattle.lines.specs.Closing.{closing_line}
use Rattle.lines.proofs.closing.Closing.write.Goals as goal

pub returns-clause-left : goal.returns-clause-left
returns-clause-left c =
    let long = long_enough (closing_line c.args.self) c.args.space.now (omega arith) in
    search rules
