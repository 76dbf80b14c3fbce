use Rattle.std.proofs.Common.{◌≡◌, ◌+◌, ◌*◌, ◌^◌, ◌<◌, [], ◌∷◌, ◌++◌, length, get_or, sym, refl, ap, ◌∙◌, rules, arith}
use Rattle.std.proofs.lemmas.List.{length-append}
use Rattle.std.proofs.lemmas.Slice.Zip.{zip_turn, zip_end}
use lib.Bits.{bit_and, and_le_l}
use lib.Count.{ones, ones-le}
use Rattle.sets.specs.Members.{sum_below, has}
use Rattle.sets.proofs.Counting.{both, count_more, sum_le, both_le}
use Rattle.sets.proofs.set.ComponentSet.common.Goals as goal

pub loop-word-init : goal.loop-word-init
unfolding sum_below
loop-word-init c = refl

pub overflow_add-count : goal.overflow_add-count
overflow_add-count c =
    let turn = zip_turn c.args.self.now.words c.args.other.now.words _ _ _ c.next.new.self _ (search rules) (search rules) c.loop-word.yielded_by _ c.in-Some.is c.next.ensures.steps in
    let l = and_le_l c.in-Some.word.now c.in-Some.others.now in
    let o = ones-le 64 (bit_and c.in-Some.word.now c.in-Some.others.now) (omega arith) in
    let s = sum_le (both c.args.self.now.words c.args.other.now.words) (length c.loop-word.yielded * 64) (both_le _ _) in
    omega arith

pub loop-word-preserved : goal.loop-word-preserved
loop-word-preserved c =
    let a = c.args.self.now.words in
    let b = c.args.other.now.words in
    let i = length c.loop-word.yielded in
    let turn = zip_turn a b _ _ _ c.next.new.self _ (search rules) (search rules) c.loop-word.yielded_by _ c.in-Some.is c.next.ensures.steps in
    let l = and_le_l c.in-Some.word.now c.in-Some.others.now in
    let here : bit_and c.in-Some.word.now c.in-Some.others.now ≡ bit_and (get_or a i 0) (get_or b i 0) = λ k. bit_and (turn.2 0 k) (turn.3 0 k) in
    let f : bit_and (get_or a i 0) (get_or b i 0) < 2 ^ 64 = omega arith in
    let len : i + 1 ≡ length (c.loop-word.yielded ++ (c.in-Some.word, c.in-Some.others) ∷ []) = sym (length-append c.loop-word.yielded _) in
    ap (λ m. m + ones (bit_and c.in-Some.word.now c.in-Some.others.now)) c.loop-word.invariant
    ∙ ap (λ w. sum_below (both a b) (i * 64) + ones w) here
    ∙ sym (count_more a b i f)
    ∙ ap (λ n. sum_below (both a b) (n * 64)) len

pub returns : goal.returns
unfolding has
returns c =
    let end = zip_end c.args.self.now.words c.args.other.now.words _ _ _ c.next.new.self _ (search rules) (search rules) c.loop-word.yielded_by c.in-None.is c.next.ensures.steps in
    let e : length c.loop-word.yielded * 64 ≡ 512 = omega arith in
    let all = c.loop-word.invariant ∙ ap (sum_below (both c.args.self.now.words c.args.other.now.words)) e in
    search (rules, all)
