-- What a closed sheet tells.
use Rattle.std.proofs.Common.{arith}
use Rattle.plan.specs.Layout.{Layout, Lawful}
use Rattle.sheet.specs.declared.closed.ClosedSheet.{ClosedSheet}
use Rattle.sheet.specs.Connections.{layout_of}
use Rattle.sheet.specs.Laws.{lawful_drawn}

abbrev pub closed_layout : ClosedSheet → Layout
closed_layout p = layout_of p.sheet.records.now p.shown

pub closed_lawful : (p : ClosedSheet) → Lawful (closed_layout p)
closed_lawful p =
    let few = p.sheet.few in
    let part = p.part in
    lawful_drawn p.sheet.records.now p.shown p.sheet.sections (omega arith) p.sheet.small
    (λ k h. p.sheet.known k (omega arith))
