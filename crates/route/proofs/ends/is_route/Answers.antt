use Rattle.std.proofs.Common.{◌/◌, None, sym}
use Rattle.route.specs.Paths.{last_of}
use Rattle.route.specs.Steps.{SignalAt}
use Rattle.route.proofs.Ending.{no_end}
use Rattle.route.proofs.ends.is_route.Goals as goal

pub returns-in_default-signal : goal.returns-in_default-signal
returns-in_default-signal g c =
    let p = c.args.plan.now in
    let none : SignalAt (g.P.Plan.layout p) (last_of c.args.at.now / 4) None = rw (sym c.component.ensures) c.in_default-signal.ensures in
    λ b. no_end (g.P.Plan.layout p) (g.P.Plan.lawful p) c.args.at.now b none
