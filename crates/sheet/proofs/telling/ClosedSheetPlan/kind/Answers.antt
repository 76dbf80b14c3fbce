use Rattle.std.proofs.Common.{ap, ◌∙◌}
use Rattle.plan.specs.Layout.{told_kind}
use Rattle.sheet.proofs.telling.ClosedSheetPlan.kind.Goals as goal

pub returns : goal.returns
returns c = c.kind.ensures ∙ ap (λ l. told_kind l c.args.component) c.drawn.ensures
