use Rattle.std.proofs.Common.{vec_items}
use Rattle.frame.specs.View.{view}
use Rattle.day.specs.Pool.{serials}
use Rattle.frame_demo.proofs.Matches.{balanced_still, matched_both}
use Rattle.frame_demo.proofs.days.print_both.Goals as goal

pub returns-in_err-orders : goal.returns-in_err-orders
returns-in_err-orders c =
    let a = view c.args.first.now in
    let b = view c.args.second.now in
    let p = serials (vec_items c.args.pool.now) in
    matched_both c.args.pool.now p p a b c.requires.no_slip (balanced_still p a c.requires.first) (balanced_still p b c.requires.second)

pub returns-in_err-print_day-2 : goal.returns-in_err-print_day-2
returns-in_err-print_day-2 c =
    matched_both c.args.pool.now _ _ (view c.print_day.new.frame) (view c.print_day-2.new.frame) c.requires.no_slip c.print_day.ensures c.print_day-2.ensures

pub returns-in_err-println : goal.returns-in_err-println
returns-in_err-println c =
    matched_both c.args.pool.now _ _ (view c.print_day.new.frame) (view c.print_day-2.new.frame) c.requires.no_slip c.print_day.ensures c.print_day-2.ensures

pub returns : goal.returns
returns c =
    let both = matched_both c.args.pool.now _ _ (view c.print_day.new.frame) (view c.print_day-2.new.frame) c.requires.no_slip c.print_day.ensures c.print_day-2.ensures in
    c.print_release.ensures (view c.print_day-2.new.frame) both
