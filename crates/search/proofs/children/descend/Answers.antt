use Rattle.std.proofs.Common.{ℕ, Option, sym, subst}
use Rattle.search.specs.Found.{Descended}
use Rattle.search.proofs.Descents.{descended}
use Rattle.search.proofs.children.descend.Goals as goal

pub returns : goal.returns
returns g c =
    let p = c.args.plan.now in
    let D : Option ℕ → Type 0 = λ o. Descended (g.P.Plan.layout p) c.args.from c.args.at.now c.push.new.self o in
    subst D (sym c.then_some.ensures)
    (descended (g.P.Plan.layout p) (g.P.Plan.lawful p) c.args.from c.args.at.now c.entries.result.now c.entries.ensures.value
    c.push.new.self c.in-Some.e c.push.result c.in-Some.ensures.least c.in-Some.ensures.onward c.push.ensures)
