use Rattle.std.proofs.Common.{◌≡◌, true, false, subst, rules}
use Rattle.std.proofs.lemmas.Iterator.{first_from_Range}
use Rattle.plan.specs.Layout.{Layout}
use Rattle.sheet.specs.Connections.{drawn}
use Rattle.sheet.specs.Look.{is_whole, FirstBad}
use Rattle.sheet.proofs.Looks.{first_bad}
use Rattle.sheet.proofs.sheet.Sheet.first_blank.Goals as goal

pub returns : goal.returns
returns c =
    let d = drawn c.drawn-drawn.result.records.now in
    let n = c.args.self.now.count in
    subst (λ (l : Layout). FirstBad n (λ k. is_whole l k ≡ true) (λ k. is_whole l k ≡ false) c.find.result) c.drawn-drawn.ensures
    (first_bad n _ _ c.find.result
    (first_from_Range _ _ _ c.find.result (λ k. is_whole d k ≡ false) (λ k. is_whole d k ≡ true) c.find.ensures.ran (λ k q h. search rules) (λ k q h. search rules)))
