use Rattle.std.proofs.Common.{vec_items}
use Rattle.frame.specs.View.{view}
use Rattle.frame_demo.proofs.Matches.{matched_released}
use Rattle.frame_demo.proofs.days.print_release.Goals as goal

pub returns-in_err-println-in-Ok : goal.returns-in_err-println-in-Ok
returns-in_err-println-in-Ok c = λ b m.
    let e = c.in-Ok.ensures in
    matched_released (vec_items c.args.pool.now) (vec_items c.pop.new.self) c.in-Some.slip (view c.args.frame.now) b c.in-Some.ensures.items m (view c.release.new.self) e.told.0 e.after

pub returns-in_ok-println-in-Ok : goal.returns-in_ok-println-in-Ok
returns-in_ok-println-in-Ok c = λ b m.
    let e = c.in-Ok.ensures in
    matched_released (vec_items c.args.pool.now) (vec_items c.pop.new.self) c.in-Some.slip (view c.args.frame.now) b c.in-Some.ensures.items m (view c.release.new.self) e.told.0 e.after
