use Rattle.std.proofs.Common.{◌≡◌, ◌*◌, length}
use Rattle.sets.specs.Members.{sum_below}
use Rattle.sets.proofs.Counting.{both}
use Rattle.sets.proofs.set.ComponentSet.common.Given as goal

abbrev pub invariant-loop-word : goal.invariant-loop-word
invariant-loop-word l = l.count ≡ sum_below (both l.self.words l.other.words) (length l.yielded * 64)
