use Rattle.std.proofs.Common.{◌+◌, ◌&&◌, drop, ap, ◌∙◌, arith}
use Rattle.row.specs.Row.{all_ok}
use Rattle.row.proofs.Rows.{good_more, good_ends}
use Rattle.row.proofs.shape.are_entries.Goals as goal

pub loop-e-preserved : goal.loop-e-preserved
loop-e-preserved c =
    let row = c.args.row.now in
    let i = c.loop-e.e-index in
    ap (λ b. (c.loop-e.good && b) && all_ok (drop (i + 1) row)) c.is_entry-good.ensures
    ∙ good_more row i c.loop-e.good (omega arith) c.loop-e.invariant

pub returns : goal.returns
returns c = good_ends c.args.row.now c.loop-e.e-index c.loop-e.good (omega arith) c.loop-e.invariant (omega arith) (omega arith)
