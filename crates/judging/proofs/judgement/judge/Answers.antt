use Rattle.std.proofs.Common.{◌≡◌, ℕ, List, refl, ◌∙◌, subst}
use Rattle.row.specs.Row.{entries_of}
use Rattle.route.specs.Paths.{Route}
use Rattle.judging.specs.Judged.{FailsAt}
use Rattle.judging.proofs.Places.{fails_early, fails_late, accepted, no_failure, row_some}
use Rattle.judging.proofs.judgement.judge.Goals as goal
use Rattle.judging.proofs.judgement.judge.Goals.{then-place-path-via-then-place-path, then-place-path-via-else-place-path+then-not-is_route}

pub returns-then-place-path : goal.returns-then-place-path
returns-then-place-path g c =
    let l = g.P.Plan.layout c.args.plan.now in
    let es = c.as_slice-path.result.now in
    let k = c.walked-place.result in
    let row = c.in_ok-entries.ensures.value in
    let same : es ≡ entries_of c.args.row.now = c.as_slice-path.ensures.value ∙ row.1 in
    let F : List ℕ → Type 0 = λ x. FailsAt l x k in
    let some = row_some c.args.row.now es row.0 same in
    let fails : FailsAt l es k =
    elim c.then-place-path.branch [
      | then-place-path-via-then-place-path w ↦ fails_early l es k c.walked-place.ensures w.if-place-path.true
      | then-place-path-via-else-place-path+then-not-is_route w ↦ fails_late l es k c.walked-place.ensures w.if-place-path.false some w.if-not-is_route.ensures
    ] in
    record { judged = (row.0, subst F same fails); routes = λ h t. absurd (no_failure l (entries_of c.args.row.now) k (subst F same fails) t) }

pub returns : goal.returns
returns g c =
    let l = g.P.Plan.layout c.args.plan.now in
    let es = c.as_slice-path.result.now in
    let row = c.in_ok-entries.ensures.value in
    let same : es ≡ entries_of c.args.row.now = c.as_slice-path.ensures.value ∙ row.1 in
    let R : List ℕ → Type 0 = λ x. Route l x in
    let some = row_some c.args.row.now es row.0 same in
    record {
      judged = (row.0, subst R same (accepted l es c.walked-place.result c.walked-place.ensures c.if-place-path.false some c.if-not-is_route.ensures));
      routes = λ h t. refl;
    }
