use Rattle.std.proofs.Common.{◌≡◌, ◌-◌, ◌/◌, length, map, drop, length-drop, ap, ◌∙◌, rules, arith}
use Rattle.std.proofs.lemmas.List.{take_all}
use Rattle.std.specs.Simd.{first_chunks}
use Rattle.numbers.specs.Stored.{number}
use Rattle.row.specs.Row.{numbers_from}
use Rattle.row.proofs.Rows.{pairs_numbers}
use Rattle.row.proofs.shape.pairs.Goals as goal

pub returns-in-Some-clause-numbers : goal.returns-in-Some-clause-numbers
returns-in-Some-clause-numbers c =
    let s = c.args.bytes.now in
    let rest : c.in-Some.rest.now ≡ drop 2 s = c.in-Some.ensures.lookup.0.2 ∙ take_all (length s - 2) (drop 2 s) (omega (arith, length-drop 2 s)) in
    let k : length c.in-Some.rest.now / 2 ≡ (length s - 2) / 2 = search rules in
    ap (map (λ pair. number pair 0)) (c.as_chunks.ensures.front ∙ (λ i. first_chunks 2 (k i) (rest i))) ∙ pairs_numbers s 2 ((length s - 2) / 2) (omega (arith, c.in-Some.ensures.lookup.0.0))

pub returns-in-None-clause-numbers : goal.returns-in-None-clause-numbers
unfolding numbers_from
returns-in-None-clause-numbers c =
    let s = c.args.bytes.now in
    let none : 0 ≡ (length s - 2) / 2 = search rules in
    ap (numbers_from s 2) none
