use Rattle.std.proofs.Common.{◌≡◌, ◌+◌, ◌*◌, ◌&&◌, length, get_or, drop, sym, ap, ◌∙◌, arith}
use Rattle.std.proofs.lemmas.Bool.{eq-eqb}
use Rattle.numbers.specs.Stored.{number}
use Rattle.row.specs.Row.{entry_ok, all_ok, is_entries, entries_of}
use Rattle.row.proofs.Rows.{good_more, good_ends, no_row, length_entries, entry_at, pair_at}
use Rattle.row.proofs.shape.is_row.Goals as goal

pub returns-then-bytes-count : goal.returns-then-bytes-count
returns-then-bytes-count c = sym (no_row c.args.bytes.now (λ e two many. omega arith))

pub loop-pair-preserved : goal.loop-pair-preserved
loop-pair-preserved c =
    let s = c.args.bytes.now in
    let i = c.loop-pair.pair-index in
    let n = length_entries s in
    let pair = pair_at s c.pairs-pair-items.result.now _ i c.pairs-pair-items.ensures.numbers (omega arith) (omega arith) in
    let e : c.from_le_bytes.result ≡ get_or (entries_of s) i 0 = c.from_le_bytes.ensures ∙ pair ∙ sym (entry_at s i (omega arith)) in
    ap (λ b. (c.loop-pair.good && b) && all_ok (drop (i + 1) (entries_of s))) (c.is_entry-good.ensures ∙ ap entry_ok e)
    ∙ good_more (entries_of s) i c.loop-pair.good (omega arith) c.loop-pair.invariant

pub returns : goal.returns
returns c =
    let s = c.args.bytes.now in
    let n = length_entries s in
    let l : length s ≡ 2 + 2 * number s 0 = omega arith in
    good_ends (entries_of s) c.loop-pair.pair-index c.loop-pair.good (omega arith) c.loop-pair.invariant (omega arith) (omega arith)
    ∙ sym (ap (λ b. b && is_entries (entries_of s)) (eq-eqb _ _ l))
