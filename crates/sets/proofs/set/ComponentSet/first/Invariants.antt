use Rattle.std.proofs.Common.{◌≡◌, ℕ, ◌*◌, ◌<◌}
use Rattle.sets.specs.Members.{has}
use Rattle.sets.proofs.set.ComponentSet.first.Given as goal

abbrev pub invariant-loop-i : goal.invariant-loop-i
invariant-loop-i l = (c : ℕ) → c < 64 * l.i → has l.self c ≡ 0
