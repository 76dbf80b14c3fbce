use Rattle.std.proofs.Common.{rules}
use borrow.Author.Tests.{tests}
use Rattle.std.proofs.lemmas.Iterator.{YieldsList-from_slice, cases_from_any}
use Rattle.frame.proofs.Opens.{OnRoute, held}
use Rattle.frame.proofs.held.is_held.Goals as goal

pub returns : goal.returns
returns c =
    let rs = c.args.routes.now in
    let s = c.args.component in
    held rs s c.any.result
    (cases_from_any _ _ _ (OnRoute s) (λ x. OnRoute s x → ⊥) c.any.ensures.ran (YieldsList-from_slice rs cc) (λ x q k. search (rules, tests)) (λ x q k. search (rules, tests)))
