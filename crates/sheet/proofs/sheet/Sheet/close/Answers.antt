use Rattle.std.proofs.Common.{ap, ◌∙◌}
use Rattle.sheet.specs.Connections.{layout_of}
use Rattle.sheet.proofs.Growth.{empty_drawn}
use Rattle.sheet.proofs.Looks.{not_whole}
use Rattle.sheet.proofs.sheet.Sheet.close.Goals as goal
use Rattle.sheet.proofs.sheet.Sheet.close.Goals.{in-Ok, in-Err}

pub returns-clause-whole : goal.returns-clause-whole
returns-clause-whole c = λ whole.
    elim c.match-look_over.branch [
      | in-Ok w ↦ ap (layout_of c.args.self.records.now) w.shown-is
      | in-Err w ↦ absurd (not_whole _ _ w.in-Err.field-0 w.in-Err.ensures.looked whole)
    ]

pub returns-clause-refused : goal.returns-clause-refused
returns-clause-refused c = λ refused.
    elim c.match-look_over.branch [
      | in-Ok w ↦ absurd (refused w.in-Ok.ensures.looked)
      | in-Err w ↦ ap (layout_of c.args.self.records.now) w.shown-is ∙ empty_drawn c.args.self.records.now
    ]
