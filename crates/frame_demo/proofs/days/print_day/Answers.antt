use Rattle.std.proofs.Common.{List, vec_items, sym, subst}
use Rattle.frame.specs.declared.slip.Slip.{Slip}
use Rattle.frame.specs.View.{view}
use Rattle.day.specs.Balance.{Balanced}
use Rattle.day.specs.Pool.{serials}
use Rattle.frame_demo.proofs.Matches.{balanced_still}
use Rattle.frame_demo.proofs.days.print_day.Goals as goal

pub returns-in_err-println : goal.returns-in_err-println
returns-in_err-println c = balanced_still _ (view c.args.frame.now) c.requires

pub returns-in_err-words : goal.returns-in_err-words
returns-in_err-words c = balanced_still _ (view c.args.frame.now) c.requires

pub returns-in_err-left : goal.returns-in_err-left
returns-in_err-left c =
    let p = serials (vec_items c.args.pool.now) in
    let b = view c.args.frame.now in
    let F : List Slip → Type 0 = λ ss. Balanced p (serials ss) b in
    subst F (sym {A = List Slip} c.in_err-left.ensures.refused) (balanced_still p b c.requires)
