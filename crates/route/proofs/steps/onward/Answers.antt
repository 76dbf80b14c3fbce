use Rattle.std.proofs.Common.{sym, arith}
use Rattle.plan.proofs.Ports.{far_below}
use Rattle.plan.proofs.Tellings.{kind_refused}
use Rattle.route.proofs.steps.onward.Goals as goal

pub returns-in_default-kind : goal.returns-in_default-kind
returns-in_default-kind g c =
    let p = c.args.plan.now in
    let below = far_below (g.P.Plan.layout p) (g.P.Plan.lawful p) _ c.in-Some.port (sym c.in-Some.ensures) in
    let past = kind_refused (g.P.Plan.layout p) _ _ c.in_default-kind.ensures in
    record { exact = λ e h. omega arith; small = tt }
