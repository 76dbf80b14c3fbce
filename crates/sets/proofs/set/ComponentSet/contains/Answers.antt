use Rattle.std.proofs.Common.{◌/◌, ◌%◌, ◌^◌, eqb, get_or, sym, ap, arith}
use lib.Bits.{and_mask}
use Rattle.sets.specs.Members.{has}
use Rattle.sets.proofs.Membership.{has_past}
use Rattle.sets.proofs.set.ComponentSet.contains.Goals as goal

pub returns-then-component-ge512 : goal.returns-then-component-ge512
returns-then-component-ge512 c = sym (ap (λ m. eqb m 1) (has_past c.args.self.now c.args.component (omega arith)))

pub returns : goal.returns
unfolding has
returns c =
    ap (λ m. eqb m 1) (and_mask (get_or c.args.self.now.words (c.args.component / 64) 0 / 2 ^ (c.args.component % 64)) 1)
