use Rattle.std.proofs.Common.{ap, ◌∙◌}
use Rattle.std.proofs.Common.{take}
use Rattle.sheet.specs.Connections.{drawn}
use Rattle.sheet.proofs.Front.{drawn_front}
use Rattle.sheet.proofs.sheet.Sheet.drawn.Goals as goal

pub returns : goal.returns
returns c =
    let s = c.args.self.now in ap (λ n. drawn (take n s.records.now)) c.from.ensures ∙ drawn_front s.records.now s.count s.fits
