use Rattle.std.proofs.Common.{◌≡◌, ◌+◌, ◌*◌, ◌<◌, ◌≤◌, true, [], ◌∷◌, ◌++◌, length, get_or, take, sym, refl, ap, ◌∙◌, arith}
use Rattle.std.proofs.lemmas.List.{length-take-le, take_all, take_more}
use Rattle.std.proofs.lemmas.Bool.{and_from, lt-ltb}
use Rattle.numbers.specs.Stored.{number}
use Rattle.row.specs.Row.{entries_of}
use Rattle.row.specs.View.{entries}
use Rattle.row.proofs.Rows.{read_written, row_parts, entry_parts, entry_at, length_entries, pair_at}
use Rattle.row.proofs.reading.read_row.Goals as goal

pub returns-then-not-is_row : goal.returns-then-not-is_row
returns-then-not-is_row c = record { value = (sym c.if-not-is_row.ensures, refl); law = read_written }

pub loop-pair-preserved : goal.loop-pair-preserved
loop-pair-preserved c =
    let s = c.args.bytes.now in
    let i = c.loop-pair.pair-index in
    let n = length_entries s in
    let parts = row_parts s (sym c.if-not-is_row.ensures) in
    let many : number s 0 ≤ 512 = parts.2 in
    let pair = pair_at s c.pairs-pair-items.result.now _ i c.pairs-pair-items.ensures.numbers (omega arith) (omega arith) in
    let in_count : i < length (entries_of s) = omega arith in
    let e : c.from_le_bytes.result ≡ get_or (entries_of s) i 0 = c.from_le_bytes.ensures ∙ pair ∙ sym (entry_at s i (omega arith)) in
    let small : number s (2 + 2 * i) < 2048 = (entry_parts _ (parts.3 i (omega arith))).0 in
    let low : c.from_le_bytes.result < 2048 = omega arith in
    let l : length (entries c.loop-pair.list) ≡ i = ap length c.loop-pair.invariant ∙ length-take-le i (entries_of s) (omega arith) in
    let room : length (entries c.loop-pair.list) < 512 = omega arith in
    let fits : c.push.result ≡ true = c.push.ensures.fits ∙ and_from _ _ (lt-ltb _ 512 room) (lt-ltb _ 2048 low) in
    c.push.ensures.grown fits
    ∙ ap (λ xs. xs ++ c.from_le_bytes.result ∷ []) c.loop-pair.invariant
    ∙ sym (take_more (entries_of s) i 0 in_count ∙ ap (λ x. take i (entries_of s) ++ x ∷ []) (sym e))

pub returns : goal.returns
returns c =
    let s = c.args.bytes.now in
    let n = length_entries s in
    let parts = row_parts s (sym c.if-not-is_row.ensures) in
    let l : length s ≡ 2 + 2 * number s 0 = parts.0 in
    let done = take_all c.loop-pair.pair-index (entries_of s) (omega arith) in
    record { value = (sym c.if-not-is_row.ensures, c.loop-pair.invariant ∙ done); law = read_written }
