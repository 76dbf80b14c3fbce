use Rattle.std.proofs.Common.{◌+◌, length, set, refl, ◌∙◌}
use Rattle.std.proofs.lemmas.Bool.{ltb-true, and_parts}
use Rattle.plan.specs.Layout.{port}
use Rattle.sheet.specs.Connections.{layout_of}
use Rattle.sheet.proofs.Growth.{added_blank, added_layout}
use Rattle.sheet.proofs.sheet.Sheet.add.Goals as goal

pub returns-clause-after : goal.returns-clause-after
returns-clause-after c =
    let s = c.args.self.now in
    let rs = s.records.now in
    let free = ltb-true s.count (length rs) (and_parts _ _ c.requires.room).1 in
    record {
      layout =
          (λ i. layout_of (set rs (c.from.ensures i) (c.blank.ensures i)) (s.count + 1))
          ∙ added_layout rs s.count c.args.kind c.args.section free;
      blank = λ d.
          (λ i. (layout_of (set rs (c.from.ensures i) (c.blank.ensures i)) (s.count + 1)).far (port s.count d))
          ∙ added_blank rs s.count c.args.kind c.args.section free d;
      records = λ i. set rs (c.from.ensures i) (c.blank.ensures i);
      count = refl;
      sections = refl;
    }
