use Rattle.std.proofs.Common.{◌≡◌, ◌/◌, sym, ap, ◌∙◌, arith}
use Rattle.route.specs.Paths.{last_of}
use Rattle.search.specs.View.{path_of}
use Rattle.search.proofs.Dead.{barren}
use Rattle.search.proofs.flood.calls.leads_on.Goals as goal

pub returns : goal.returns
returns g c = λ no.
    let p = c.args.plan.now in
    let l = g.P.Plan.layout p in
    let settled = c.reaches_signal.ensures no in
    let first = c.in-Some-Some.ensures.item in
    let last : c.in-Some-Some.last.now ≡ last_of c.entries-path.result.now = c.in-Some-Some.ensures'.item.4 (omega (arith, first.3.0)) 0 in
    let way = ap (λ e. l.kind (e / 4)) (sym (first.4 (omega arith) 0)) ∙ ap l.kind (sym c.component.ensures) ∙ c.in-Some.ensures.1 in
    barren l (g.P.Plan.lawful p) (path_of c.args.at.now) c.entries-path.result.now c.entries-path.ensures.value c.in-Some.way
    _ c.mark.new.self c.reaches_signal.new.self first.3.0 way c.components.ensures _ last c.mark.ensures settled.0 settled.1
