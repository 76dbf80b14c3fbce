use Rattle.std.proofs.Common.{refl, rules, arith}
use borrow.Author.Tests.{tests}
use Rattle.std.proofs.lemmas.Iterator.{YieldsList-from_range, cases_from_any}
use Rattle.frame.specs.Sections.{Watches}
use Rattle.frame.proofs.Watched.{watched}
use Rattle.frame.proofs.watching.is_section.Goals as goal

pub returns : goal.returns
returns g c =
    let l = g.P.Plan.layout c.args.plan.now in
    let n = c.args.section in
    let all = c.count.ensures in
    watched l n c.any.result
    (cases_from_any _ _ _ (Watches l n) (λ x. Watches l n x → ⊥) c.any.ensures.ran (YieldsList-from_range 0 c.count.result l.count refl (omega arith)) (λ x q k. search (rules, tests)) (λ x q k. search (rules, tests)))
