use Rattle.std.proofs.Common.{rules}
use Rattle.frame.proofs.Watched.{section_small}
use Rattle.frame.proofs.watching.known.Goals as goal

pub returns-clause-small : goal.returns-clause-small
returns-clause-small g c =
    let p = c.args.plan.now in
    search (rules, section_small (g.P.Plan.layout p) (g.P.Plan.lawful p))
