use Rattle.std.proofs.Common.{refl}
use Rattle.sets.proofs.Membership.{none_in}
use Rattle.sets.proofs.set.ComponentSet.new.Goals as goal

pub returns : goal.returns
returns c = none_in _ refl
