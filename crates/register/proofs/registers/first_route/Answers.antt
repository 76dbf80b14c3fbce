use Rattle.search.specs.View.{path_of}
use Rattle.register.proofs.States.{stands_first}
use Rattle.register.proofs.registers.first_route.Goals as goal

pub returns : goal.returns
returns g c =
    stands_first (g.P.Plan.layout c.args.plan.now) (path_of c.new-next.result) (path_of c.next_route.new.at) c.next_route.result c.new-next.ensures c.next_route.ensures
