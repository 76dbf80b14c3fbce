use Rattle.std.proofs.Common.{◌≡◌, ◌/◌, eqb, sym, ap, ◌∙◌, arith}
use Rattle.sets.specs.Members.{has, joined}
use Rattle.sets.proofs.Membership.{not_in}
use Rattle.search.proofs.Floods.{marked_new}
use Rattle.search.proofs.flood.Flood.mark.Goals as goal

pub returns : goal.returns
returns g c =
    let range = c.in-Some.ensures in
    let s = c.args.self.now in
    let component : c.component-component.result ≡ c.in-Some.range.low / 4 = omega arith in
    marked_new (g.P.Plan.layout c.args.plan.now) c.args.way c.args.from c.in-Some.range range.exact s _ range.small
    (not_in s.seen (c.in-Some.range.low / 4) (ap (λ n. eqb (has s.seen n) 1) (sym component) ∙ sym c.if-contains.ensures))
    (λ k. c.insert.ensures k ∙ ap (λ n. joined s.seen n k) component) (λ k. c.insert-2.ensures k ∙ ap (λ n. joined s.waiting n k) component)
