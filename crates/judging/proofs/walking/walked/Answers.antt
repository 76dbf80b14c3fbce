use Rattle.std.proofs.Common.{◌≡◌, ℕ, ◌+◌, ◌/◌, false, eqb, length, get_or, take, sym, ap, ◌∙◌, subst, arith}
use Rattle.std.proofs.lemmas.Bool.{eqb-true}
use Rattle.sets.specs.Members.{has, joined}
use Rattle.route.specs.Growth.{Begun}
use Rattle.route.specs.Paths.{Starts}
use Rattle.judging.proofs.Gathered.{gathers_none, gathers_new, gathers_old}
use Rattle.judging.proofs.Walks.{kept_more, step_in, step_out, behind}
use Rattle.judging.proofs.walking.walked.Goals as goal
use Rattle.judging.proofs.walking.walked.Goals.{then-not-follows-via-then-not-follows, then-not-follows-via-else-not-follows+then-contains}

pub loop-i-init : goal.loop-i-init
loop-i-init g c =
    let l = g.P.Plan.layout c.args.plan.now in
    let es = c.args.row.now in
    let split = c.in-Some.ensures.cases in
    let first = ap (λ x. get_or x 0 0) split.0 in
    let Starting : ℕ → Type 0 = λ e. Starts l e in (
      kept_more l (g.P.Plan.lawful c.args.plan.now) es 0 c.new-seen.result c.insert.new.self
          ((λ i h. absurd (omega arith)), gathers_none c.new-seen.result c.new-seen.ensures)
          (omega arith) (subst Starting (sym first) c.in-Some-start.ensures.0, λ k h. absurd (omega arith))
          (λ k. c.insert.ensures k ∙ ap (λ n. joined c.new-seen.result n k) (c.component.ensures ∙ ap (λ e. e / 4) (sym first))),
      sym first,
    )

pub returns-then-not-follows : goal.returns-then-not-follows
returns-then-not-follows g c =
    let l = g.P.Plan.layout c.args.plan.now in
    let es = c.args.row.now in
    let i = c.loop-i.i in
    let split = c.in-Some.ensures.cases in
    let way = ap (λ e. l.kind (e / 4)) (ap (λ x. get_or x 0 0) split.0) ∙ c.in-Some-start.ensures.1 in
    let next = behind es c.in-Some.rest.now c.in-Some.first.now i split.0 in
    record {
      within = omega arith;
      begun = c.loop-i.invariant.0.0;
      stops = λ h m.
          elim c.then-not-follows.branch [
            | then-not-follows-via-then-not-follows w ↦
                w.if-not-follows.ensures (step_out l (g.P.Plan.lawful c.args.plan.now) es c.in-Some-start.way way i h c.loop-i.last _ c.loop-i.invariant.1 next m.0)
            | then-not-follows-via-else-not-follows+then-contains w ↦
                gathers_old c.loop-i.seen (take (i + 1) es) (get_or es (i + 1) 0) c.loop-i.invariant.0.1
                (ap (has c.loop-i.seen) (omega arith) ∙ eqb-true _ 1 (sym w.if-contains.ensures)) m.1
          ];
    }

pub loop-i-preserved : goal.loop-i-preserved
loop-i-preserved g c =
    let l = g.P.Plan.layout c.args.plan.now in
    let es = c.args.row.now in
    let i = c.loop-i.i in
    let split = c.in-Some.ensures.cases in
    let way = ap (λ e. l.kind (e / 4)) (ap (λ x. get_or x 0 0) split.0) ∙ c.in-Some-start.ensures.1 in
    let next = behind es c.in-Some.rest.now c.in-Some.first.now i split.0 in
    let new : eqb (has c.loop-i.seen (get_or es (i + 1) 0 / 4)) 1 ≡ false =
    ap (λ n. eqb (has c.loop-i.seen n) 1) (omega arith) ∙ sym c.if-contains.ensures in (
      kept_more l (g.P.Plan.lawful c.args.plan.now) es (i + 1) c.loop-i.seen c.insert-in-loop-i.new.self c.loop-i.invariant.0 (omega arith) (
        step_in l (g.P.Plan.lawful c.args.plan.now) es c.in-Some-start.way way i (omega arith) c.loop-i.last _ c.loop-i.invariant.1 next c.if-not-follows.ensures,
        gathers_new c.loop-i.seen (take (i + 1) es) (get_or es (i + 1) 0) c.loop-i.invariant.0.1 new,
      )
          (λ k. c.insert-in-loop-i.ensures k ∙ ap (λ n. joined c.loop-i.seen n k) (c.component-in-loop-i.ensures ∙ ap (λ e. e / 4) next)),
      next,
    )

pub returns : goal.returns
returns g c =
    let es = c.args.row.now in
    let split = c.in-Some.ensures.cases in
    let N : ℕ → Type 0 = λ n. Begun (g.P.Plan.layout c.args.plan.now) (take n es) in
    let e : c.loop-i.i + 1 ≡ length es = omega arith in
    record { within = omega arith; begun = subst N e c.loop-i.invariant.0.0; stops = λ h m. omega arith }
