use Rattle.std.proofs.Common.{sym, ap, ◌∙◌}
use Rattle.route.specs.Components.{times}
use Rattle.route.proofs.Counts.{times_none}
use Rattle.search.proofs.position.Position.new.Goals as goal

pub invariant_of-result : goal.invariant_of-result
invariant_of-result c = record { tied = λ k. c.new-2.ensures k ∙ sym (ap (times k) c.new.ensures ∙ times_none k) }
