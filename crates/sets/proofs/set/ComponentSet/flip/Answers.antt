use Rattle.std.proofs.Common.{◌/◌, ◌<◌, length, arith}
use Rattle.sets.specs.Members.{has}
use Rattle.sets.proofs.Flipping.{flipped_here, flipped_others}
use Rattle.sets.proofs.set.ComponentSet.flip.Goals as goal

pub returns : goal.returns
unfolding has
returns c =
    let ws = c.args.self.now.words in
    let h : c.args.component / 64 < length ws = omega arith in
    record {
      here = flipped_here ws c.args.component h;
      others = λ j n. flipped_others ws c.args.component j h n;
    }
