use Rattle.std.proofs.Common.{refl}
use Rattle.search.proofs.Floods.{gone_on}
use Rattle.search.proofs.flood.Flood.go_on.Goals as goal

pub returns : goal.returns
returns g c =
    gone_on (g.P.Plan.layout c.args.plan.now) c.args.way c.args.component c.args.self.now _ c.mark.new.self c.mark-2.new.self
    c.if-component-ge512.false refl c.remove.ensures c.mark.ensures c.mark-2.ensures
