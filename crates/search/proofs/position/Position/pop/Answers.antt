use Rattle.std.proofs.Common.{arith}
use Rattle.row.specs.View.{entries}
use Rattle.search.proofs.Ties.{tied_less}
use Rattle.search.proofs.position.Position.pop.Goals as goal

pub invariant_of-self-2 : goal.invariant_of-self-2
invariant_of-self-2 c =
    let s = c.args.self.now in
    record {
      tied =
          tied_less s.on c.remove.new.self (entries s.path) (entries c.pop.new.self) c.in-Some.e _ s.tied c.in-Some.ensures c.remove.ensures
          (omega arith);
    }
