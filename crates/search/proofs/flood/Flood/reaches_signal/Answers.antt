use Rattle.search.proofs.Floods.{settled_more}
use Rattle.search.proofs.flood.Flood.reaches_signal.Goals as goal

pub loop-component-preserved : goal.loop-component-preserved
loop-component-preserved g c =
    settled_more (g.P.Plan.layout c.args.plan.now) c.args.way c.in-Some.component c.args.self.now c.loop-component.self c.go_on.new.self
    c.loop-component.invariant c.go_on.ensures c.in-Some.ensures.0 (c.guards.ensures c.if-guards.false)
