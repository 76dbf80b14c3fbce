use Rattle.std.proofs.Common.{arith}
use Rattle.search.specs.View.{path_of}
use Rattle.search.proofs.Forward.{ahead_start}
use Rattle.search.proofs.Turns.{turn_hit, turn_down, turn_down_less, turn_over, turn_back, turn_back_less}
use Rattle.search.proofs.routes.next_route.Goals as goal

pub loop-at-init : goal.loop-at-init
loop-at-init g c = (omega arith, ahead_start (g.P.Plan.layout c.args.plan.now) (path_of c.args.at.now))

pub returns-in-Some : goal.returns-in-Some
returns-in-Some g c =
    turn_hit (g.P.Plan.layout c.args.plan.now) (path_of c.args.at.now) c.loop-at.at c.loop-at.from c.loop-at.invariant
    c.descend.new.at c.in-Some.field-0 c.in-Some.ensures c.entries.result.now c.entries.ensures.value c.if-is_route.ensures

pub loop-at-smaller-in-Some-2 : goal.loop-at-smaller-in-Some-2
loop-at-smaller-in-Some-2 g c =
    turn_down_less (g.P.Plan.layout c.args.plan.now) (path_of c.args.at.now) c.loop-at.at c.loop-at.from c.loop-at.invariant
    c.descend.new.at c.in-Some-2.field-0 c.in-Some-2.ensures c.entries.result.now c.entries.ensures.value c.first_below-from.result

pub loop-at-preserved-in-Some-2 : goal.loop-at-preserved-in-Some-2
loop-at-preserved-in-Some-2 g c =
    turn_down (g.P.Plan.layout c.args.plan.now) (path_of c.args.at.now) c.loop-at.at c.loop-at.from c.loop-at.invariant
    c.descend.new.at c.in-Some-2.field-0 c.in-Some-2.ensures c.entries.result.now c.entries.ensures.value c.if-is_route.ensures
    c.first_below-from.result c.first_below-from.ensures.few c.first_below-from.ensures.barren

pub returns-in_default : goal.returns-in_default
returns-in_default g c =
    turn_over (g.P.Plan.layout c.args.plan.now) (path_of c.args.at.now) c.loop-at.at c.loop-at.from c.loop-at.invariant
    c.descend.new.at c.retreat.new.self c.in-None.ensures c.in_default.ensures

pub overflow_add-from : goal.overflow_add-from
overflow_add-from g c =
    let few = (turn_back (g.P.Plan.layout c.args.plan.now) (path_of c.args.at.now) c.loop-at.at c.loop-at.from c.loop-at.invariant
    c.descend.new.at c.retreat.new.self c.in-None.ensures c.in-Some-retreat.e c.in-Some-retreat.ensures).0 in
    omega arith

pub loop-at-smaller : goal.loop-at-smaller
loop-at-smaller g c =
    turn_back_less (g.P.Plan.layout c.args.plan.now) (path_of c.args.at.now) c.loop-at.at c.loop-at.from c.loop-at.invariant
    c.descend.new.at c.retreat.new.self c.in-None.ensures c.in-Some-retreat.e c.in-Some-retreat.ensures

pub loop-at-preserved : goal.loop-at-preserved
loop-at-preserved g c =
    turn_back (g.P.Plan.layout c.args.plan.now) (path_of c.args.at.now) c.loop-at.at c.loop-at.from c.loop-at.invariant
    c.descend.new.at c.retreat.new.self c.in-None.ensures c.in-Some-retreat.e c.in-Some-retreat.ensures
