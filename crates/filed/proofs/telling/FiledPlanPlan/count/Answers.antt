use Rattle.std.proofs.Common.{arith}
use Rattle.file.proofs.Accepted.{accepted_lawful}
use Rattle.filed.proofs.telling.FiledPlanPlan.count.Goals as goal

pub overflow_cast-result : goal.overflow_cast-result
overflow_cast-result c =
    let few = (accepted_lawful c.args.self.now.contents.bytes.now c.args.self.now.accepted).few in omega arith
