use Rattle.std.proofs.Common.{◌<◌, ◌≤◌, ap, ◌∙◌, ⊎_elim, arith}
use Rattle.std.proofs.lemmas.Bool.{cases_lt}
use Rattle.sets.specs.Members.{has}
use Rattle.sets.proofs.Membership.{first_in_word, word_none, below_words, has_past}
use Rattle.sets.proofs.set.ComponentSet.first.Goals as goal

pub returns-then-word-ne0 : goal.returns-then-word-ne0
returns-then-word-ne0 c =
    let s = c.args.self.now in
    let first = first_in_word s c.loop-i.i (omega arith) (omega arith) (omega arith) c.loop-i.invariant in
    (omega arith, ap (has s) (omega arith) ∙ first.1, λ k h. first.2 k (omega arith))

pub loop-i-preserved : goal.loop-i-preserved
loop-i-preserved c =
    let s = c.args.self.now in
    let i = c.loop-i.i in
    below_words s i c.loop-i.invariant (λ k low high. word_none s i k c.if-word-ne0.false low high)

pub returns : goal.returns
returns c = λ k.
    ⊎_elim
    (λ (h : k < 512). c.loop-i.invariant k (omega arith))
    (λ (h : 512 ≤ k). has_past c.args.self.now k h)
    (cases_lt k 512)
