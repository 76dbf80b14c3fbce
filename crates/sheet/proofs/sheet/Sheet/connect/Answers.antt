use Rattle.std.proofs.Common.{Some, sym, ap, ◌∙◌, rules}
use Rattle.sheet.specs.Records.{put_in}
use Rattle.plan.specs.Layout.{opposed}
use Rattle.sheet.specs.Connections.{layout_of}
use Rattle.sheet.proofs.Changes.{is_none, told_ok, connected_layout}
use Rattle.sheet.proofs.sheet.Sheet.connect.Goals as goal

pub returns-then-not-is_opposed-clause-told : goal.returns-then-not-is_opposed-clause-told
returns-then-not-is_opposed-clause-told c =
    let pa = told_ok _ _ _ (sym c.far.ensures ∙ c.in_ok-far_a.was) in
    let pb = told_ok _ _ _ (sym c.far-2.ensures ∙ c.in_ok-far_b.was) in
    let op = ap (λ l. opposed l c.args.a c.args.b) c.drawn.ensures in
    search rules

pub returns-then-is_some-clause-told : goal.returns-then-is_some-clause-told
returns-then-is_some-clause-told c =
    let pa = told_ok _ _ _ (sym c.far.ensures ∙ c.in_ok-far_a.was) in
    let pb = told_ok _ _ _ (sym c.far-2.ensures ∙ c.in_ok-far_b.was) in
    let op = ap (λ l. opposed l c.args.a c.args.b) c.drawn.ensures in
    search rules

pub returns-clause-told : goal.returns-clause-told
returns-clause-told c =
    let pa = told_ok _ _ _ (sym c.far.ensures ∙ c.in_ok-far_a.was) in
    let pb = told_ok _ _ _ (sym c.far-2.ensures ∙ c.in_ok-far_b.was) in
    let op = ap (λ l. opposed l c.args.a c.args.b) c.drawn.ensures in
    search rules

pub returns-clause-after : goal.returns-clause-after
returns-clause-after c =
    let s = c.args.self.now in
    let a = c.args.a in
    let b = c.args.b in
    let recs = c.put-2.ensures.records ∙ ap (λ r. put_in r b (Some a)) c.put.ensures.records in
    let same = c.put-2.ensures.count ∙ c.put.ensures.count in
    let pa = told_ok _ _ _ (sym c.far.ensures ∙ c.in_ok-far_a.was) in
    let pb = told_ok _ _ _ (sym c.far-2.ensures ∙ c.in_ok-far_b.was) in
    record {
      layout =
          (λ i. layout_of (recs i) (same i))
          ∙ connected_layout s.records.now s.count s.fits a b pa.0 pb.0
          (sym (ap (λ l. opposed l a b) c.drawn.ensures) ∙ sym c.is_opposed.ensures ∙ c.if-not-is_opposed.false)
          (pa.1 ∙ is_none _ (sym c.is_some.ensures ∙ c.if-is_some.false))
          (pb.1 ∙ is_none _ (sym c.is_some-else-is_some.ensures ∙ c.if-is_some-2.false));
      records = recs;
      count = same;
      sections = c.put-2.ensures.sections ∙ c.put.ensures.sections;
    }
