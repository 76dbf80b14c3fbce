use Rattle.std.proofs.Common.{ℕ, List, Some, None, ◌∙◌, subst, inr}
use Rattle.std.proofs.lemmas.Result.{err_from_is_err_and}
use Rattle.frame.specs.Calls.{Standing}
use Rattle.frame.specs.View.{view}
use Rattle.frame.proofs.frame.Frame.admit.Goals as goal

pub returns-in_err-unhindered-clause-told : goal.returns-in_err-unhindered-clause-told
returns-in_err-unhindered-clause-told g c =
    let l = g.P.Plan.layout c.args.plan.now in
    let b = view c.args.self.now in
    let F : List ℕ → Type 0 = λ es. Standing l b es (Some c.in_err-unhindered.field-0.0) in
    let p = err_from_is_err_and c.from_residual-in_err-unhindered.result c.from_residual-in_err-unhindered.ensures.1 in
    rw (p.1, p.2) (inr (c.in_ok-judge.ensures.judged, subst F (c.as_slice.ensures.value ∙ c.in_ok-entries.ensures.value.1) c.in_err-unhindered.ensures.told))

pub returns-clause-told : goal.returns-clause-told
returns-clause-told g c =
    let l = g.P.Plan.layout c.args.plan.now in
    let b = view c.args.self.now in
    let F : List ℕ → Type 0 = λ es. Standing l b es None in
    (c.in_ok-judge.ensures.judged, subst F (c.as_slice.ensures.value ∙ c.in_ok-entries.ensures.value.1) c.in_ok-unhindered.ensures.told)
