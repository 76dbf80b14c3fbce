use Rattle.std.proofs.Common.{List, refl, subst, sym, inl, inr}
use Rattle.frame.specs.Book.{OpenRow}
use Rattle.frame.specs.Calls.{Conflicts}
use Rattle.frame.proofs.frame.Frame.unhindered.Goals as goal

pub returns-then-runs_occupied-clause-told : goal.returns-then-runs_occupied-clause-told
returns-then-runs_occupied-clause-told g c =
    let F : List OpenRow → Type 0 = λ rows. Conflicts rows c.args.route.now in
    inr ((λ h. c.if-conflicts.ensures (subst F (sym c.open_routes.ensures) h)), inr (c.if-lies_otherwise.ensures, inl (c.if-runs_occupied.ensures, refl)))
