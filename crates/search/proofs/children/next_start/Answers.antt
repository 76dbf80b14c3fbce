use Rattle.std.proofs.Common.{ℕ, ◌<◌, ◌≤◌, MatchOption, Option, subst, rules, arith}
use Rattle.std.proofs.lemmas.Iterator.{first_from_Range}
use Rattle.plan.specs.Layout.{Layout}
use Rattle.route.specs.Paths.{IsSignal}
use Rattle.search.proofs.Signals.{some_signal, no_signal, no_start, first_start}
use Rattle.search.proofs.children.next_start.Goals as goal

-- what is found from the component `c` on, of `n`
abbrev Finds : Layout → ℕ → ℕ → Option ℕ → Type 0
Finds l c n o =
    MatchOption o ((k : ℕ) → c ≤ k → k < n → k < l.count → IsSignal (l.kind k) → ⊥)
    (λ i. (c ≤ i) × (i < n) × IsSignal (l.kind i) × ((k : ℕ) → c ≤ k → k < i → k < l.count → IsSignal (l.kind k) → ⊥))

pub returns-in_default : goal.returns-in_default
returns-in_default g c =
    let l = g.P.Plan.layout c.args.plan.now in
    let first : Finds l _ _ c.find.result =
    first_from_Range _ _ _ c.find.result (λ k. IsSignal (l.kind k)) (λ k. k < l.count → IsSignal (l.kind k) → ⊥) c.find.ensures.ran
    (λ k q h. search (rules, some_signal)) (λ k q h. search (rules, no_signal)) in
    no_start l c.args.from _ _ (omega arith) (omega arith) (subst (Finds l _ _) c.in_default.is first)

pub returns : goal.returns
returns g c =
    let l = g.P.Plan.layout c.args.plan.now in
    let first : Finds l _ _ c.find.result =
    first_from_Range _ _ _ c.find.result (λ k. IsSignal (l.kind k)) (λ k. k < l.count → IsSignal (l.kind k) → ⊥) c.find.ensures.ran
    (λ k q h. search (rules, some_signal)) (λ k q h. search (rules, no_signal)) in
    let found = subst (Finds l _ _) c.in-Some.is first in
    first_start l c.args.from _ c.in-Some.component (omega arith) (omega arith) (found.0, omega arith, found.2, found.3)
