use Rattle.std.proofs.Common.{None, sym, ap, ◌∙◌, arith}
use Rattle.plan.specs.declared.parts.Port.{Port}
use Rattle.plan.proofs.Ports.{port_below}
use Rattle.sheet.specs.Records.{components_of, named, put_in}
use Rattle.sheet.specs.Connections.{layout_of}
use Rattle.sheet.specs.Laws.{far_says, may_parts}
use Rattle.sheet.proofs.Changes.{inner, told_ok, disconnected_layout}
use Rattle.sheet.proofs.sheet.Sheet.disconnect.Goals as goal

pub put-requires-2 : goal.put-requires-2
put-requires-2 c =
    let s = c.args.self.now in
    let l = components_of s.records.now s.count in
    let p = c.args.port in
    let q = c.in-Some.far in
    let far = (told_ok _ _ _ (sym c.far.ensures ∙ c.in_ok-far.was)).1 in
    let may = (far_says l (named s.records.now) p q (far ∙ c.in-Some.is)).2 in
    let below = port_below l q (may_parts l p q may).1 in
    let e = c.put.ensures.count in
    omega arith

pub returns-clause-after : goal.returns-clause-after
returns-clause-after c =
    let s = c.args.self.now in
    let p = c.args.port in
    let q = c.in-Some.far in
    let far = (told_ok _ _ _ (sym c.far.ensures ∙ c.in_ok-far.was)).1 ∙ c.in-Some.is in
    let recs = c.put-2.ensures.records ∙ ap (λ r. put_in r q None) c.put.ensures.records in
    let same = c.put-2.ensures.count ∙ c.put.ensures.count in
    record {
      layout =
          (λ i. layout_of (recs i) (same i))
          ∙ disconnected_layout s.records.now s.count s.fits p q far;
      records = λ x e. recs ∙ ap (λ (y : Port). put_in (put_in s.records.now p None) y None) (inner _ q x far e);
      count = same;
      sections = c.put-2.ensures.sections ∙ c.put.ensures.sections;
    }
