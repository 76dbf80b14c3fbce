use Rattle.std.proofs.Common.{ap, ◌∙◌}
use Rattle.plan.specs.Layout.{told_section}
use Rattle.sheet.proofs.telling.ClosedSheetPlan.section.Goals as goal

pub returns : goal.returns
returns c = c.section.ensures ∙ ap (λ l. told_section l c.args.component) c.drawn.ensures
