use Rattle.std.proofs.Common.{ℕ, [], ◌∷◌, ◌++◌, Some, sym, ap, subst}
use Rattle.frame.specs.declared.frame.Frame.{Frame}
use Rattle.frame.specs.declared.slip.Slip.{Slip}
use Rattle.frame.specs.Calls.{Releasing}
use Rattle.frame.specs.View.{view}
use Rattle.frame_demo.specs.Matched.{Matched}
use Rattle.frame_demo.proofs.Matches.{one_accepts, matched_closed_first, matched_closed_second}
use Rattle.frame_demo.proofs.days.close.Goals as goal

pub unreachable-requires : goal.unreachable-requires
unreachable-requires c =
    let a = view c.args.first.now in
    let b = view c.args.second.now in
    let R : ℕ → Type 0 = λ n. Releasing a n (Some c.in-Err-release.field-0-0) in
    let back = ap (λ (x : Slip). x.serial) c.in-Err.ensures.kept.0 in
    one_accepts c.args.slip.serial a b c.in-Err-release.field-0-0 c.in-Err.field-0-0 c.requires (subst R back c.in-Err-release.ensures.told) c.in-Err.ensures.told

pub returns-in-Ok : goal.returns-in-Ok
returns-in-Ok c = λ p m.
    let e = c.in-Ok.ensures in
    matched_closed_second c.args.slip.serial p (view c.args.first.now) (view c.args.second.now) m (view c.release.new.self) e.told.0 e.after

pub returns-in-Ok-release : goal.returns-in-Ok-release
returns-in-Ok-release c = λ p m.
    let a = view c.args.first.now in
    let b = view c.args.second.now in
    let e = c.in-Ok-release.ensures in
    let kept = c.in-Err.ensures.kept in
    let now = view c.release-in-Err.new.self in
    let M : ℕ → Type 0 = λ n. Matched (p ++ n ∷ []) a b in
    let F : Frame → Type 0 = λ x. Matched p now (view x) in
    let back = subst M (sym (ap (λ (x : Slip). x.serial) kept.0)) m in
    subst F (sym kept.1) (matched_closed_first c.in-Err.slip.serial p a b back now e.told.0 e.after)
