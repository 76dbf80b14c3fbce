use Rattle.std.proofs.Common.{◌≡◌, ◌+◌, length, sym, ap, ◌∙◌, arith, rules, tests}
use Rattle.std.specs.List.{sum_by}
use Rattle.std.proofs.iter.runs.Made.{chains}
use Rattle.std.proofs.lemmas.Iterator.{YieldsList-from_slice}
use Rattle.std.proofs.lemmas.Iterator.Adapters.{fits_from_length, at_most_from_yields_List}
use Rattle.numbers.specs.Stored.{number}
use Rattle.row.proofs.Rows.{row_parts}
use Rattle.lines.specs.Lines.{shown, row_line}
use Rattle.lines.proofs.Pairs.{entries_pairs, length_pairs}
use Rattle.lines.proofs.rows.line_count.Goals as goal

pub sum-requires-clause-fits : goal.sum-requires-clause-fits
sum-requires-clause-fits c =
    let p = row_parts c.args.row.now c.requires in
    let k = c.pairs.ensures.count in
    fits_from_length _ _ 512 _ (at_most_from_yields_List (YieldsList-from_slice c.pairs.result.now cc) (omega arith)) c.map.ensures.closure (omega arith) (λ x r q k. search (rules, tests))

pub returns : goal.returns
returns c =
    let ps = c.pairs.result.now in
    let e : c.sum.result ≡ sum_by (λ p. length (shown (number p 0)) + 1) ps = search (rules, chains) in
    e ∙ sym (ap (λ es. length (row_line es)) (entries_pairs c.args.row.now ps c.requires c.pairs.ensures.numbers) ∙ length_pairs ps)
