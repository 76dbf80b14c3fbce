use Rattle.std.proofs.Common.{subst, rules}
use Rattle.std.proofs.lemmas.Iterator.{first_from_Range}
use Rattle.plan.specs.Layout.{Layout}
use Rattle.sheet.specs.Connections.{drawn}
use Rattle.sheet.specs.Look.{HasSwitch, NoSwitch, FirstBad}
use Rattle.sheet.proofs.Looks.{first_bad, has_switch, no_switch}
use Rattle.sheet.proofs.sheet.Sheet.first_empty.Goals as goal

pub returns : goal.returns
returns c =
    let d = drawn c.drawn-drawn.result.records.now in
    let n = c.args.self.now.sections in
    subst (λ (l : Layout). FirstBad n (HasSwitch l) (NoSwitch l) c.find.result) c.drawn-drawn.ensures
    (first_bad n _ _ c.find.result
    (first_from_Range _ _ _ c.find.result (NoSwitch d) (HasSwitch d) c.find.ensures.ran (λ k q h. search (rules, no_switch)) (λ k q h. search (rules, has_switch))))
