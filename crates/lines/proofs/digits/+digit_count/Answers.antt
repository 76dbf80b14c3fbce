use Rattle.std.proofs.Common.{arith}
use Rattle.lines.proofs.Decimals.{length_step, length_decimal}
use Rattle.lines.proofs.digits.+digit_count.Goals as goal

pub returns-else-n-lt1000-clause-few : goal.returns-else-n-lt1000-clause-few
returns-else-n-lt1000-clause-few t c =
    let e = length_step c.args.n (omega arith) in let few = length_decimal c.args.n (omega arith) in omega arith
