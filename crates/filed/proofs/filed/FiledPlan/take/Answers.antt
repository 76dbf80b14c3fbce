use Rattle.std.proofs.Common.{ap, ◌∙◌}
use Rattle.file.specs.FileOf.{accepts}
use Rattle.filed.proofs.Empty.{taken_accepted, taken_layout}
use Rattle.filed.proofs.filed.FiledPlan.take.Goals as goal

pub invariant_of-result : goal.invariant_of-result
invariant_of-result c = record { accepted = ap accepts (c.contents-contents.ensures ∙ c.accepted.ensures) ∙ taken_accepted c.args.bytes.now }

pub returns : goal.returns
returns c = record {
  bytes = c.contents-contents.ensures ∙ c.accepted.ensures;
  layout = taken_layout c.args.bytes.now c.contents-contents.result.bytes.now (c.contents-contents.ensures ∙ c.accepted.ensures);
}
