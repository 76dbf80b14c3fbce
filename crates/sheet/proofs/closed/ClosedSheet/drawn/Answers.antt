use Rattle.std.proofs.Common.{take, ap, ◌∙◌, arith}
use Rattle.sheet.specs.Connections.{drawn}
use Rattle.sheet.proofs.Front.{drawn_front}
use Rattle.sheet.proofs.closed.ClosedSheet.drawn.Goals as goal

pub returns : goal.returns
returns c =
    let p = c.args.self.now in
    let fits = p.sheet.fits in
    let part = p.part in
    ap (λ n. drawn (take n p.sheet.records.now)) c.from.ensures
    ∙ drawn_front p.sheet.records.now p.shown (omega arith)
