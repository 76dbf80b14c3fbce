use Rattle.std.proofs.Common.{◌<◌, rules}
use Rattle.frame.proofs.frame.Frame.clear.Goals as goal

pub returns-clause-after : goal.returns-clause-after
returns-clause-after g c =
    let small : c.args.section < 1024 = c.in_ok-known.ensures.small in
    search rules
