use Rattle.std.proofs.Common.{rules}
use borrow.Author.Tests.{tests}
use Rattle.std.proofs.lemmas.Iterator.{YieldsList-from_slice, IsFirst-from_position}
use Rattle.frame.proofs.Places.{Has, HasNot, placed}
use Rattle.frame.proofs.frame.releasing.place.Goals as goal

pub returns : goal.returns
returns c =
    let rs = c.args.routes.now in
    let s = c.args.serial in
    placed rs s c.position.result
    (IsFirst-from_position _ _ _ (Has s) (HasNot s) c.position.ensures.ran (YieldsList-from_slice rs cc) (λ x q k. search (rules, tests)) (λ x q k. search (rules, tests)))
