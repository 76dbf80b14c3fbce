use Rattle.std.proofs.Common.{ap, ◌∙◌, rules}
use Rattle.plan.specs.Layout.{told_far}
use Rattle.sheet.proofs.sheet.Sheet.far.Goals as goal

pub returns : goal.returns
returns c = let told = c.far.ensures ∙ ap (λ l. told_far l c.args.port) c.drawn.ensures in search (rules, told)
