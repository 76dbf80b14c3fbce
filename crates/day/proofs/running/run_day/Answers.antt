use Rattle.std.proofs.Common.{vec_items, sym, ap, ◌∙◌, subst}
use Rattle.frame.specs.View.{view}
use Rattle.signal_box.specs.Journal.{unwritten}
use Rattle.signal_box.specs.Kept.{Kept}
use Rattle.day.specs.Pool.{serials}
use Rattle.day.specs.Chain.{Served}
use Rattle.day.specs.Day.{WholeDay}
use Rattle.day.proofs.Balances.{whole_balanced}
use Rattle.day.proofs.Days.{chain_day, chain_throughout}
use Rattle.day.proofs.running.run_day.Goals as goal

pub returns : goal.returns
returns g c =
    let P = g.row.P.Denot in
    let layout = g.P.Plan.layout in
    let x = c.new-station.result in
    let made = c.new-station.ensures in
    let l = layout c.args.plan in
    let p = serials (vec_items c.args.pool.now) in
    let q = serials (vec_items c.serve.new.pool) in
    let os = vec_items c.args.orders in
    let rs = vec_items c.in_ok-answers.answers in
    let K : P → Type 0 = λ u. Kept (layout u) unwritten x in
    let S : P → Type 0 = λ u. Served (layout u) unwritten p os rs q c.serve.new.station in
    let s = subst S made.plan (c.in_ok-answers.ensures.served unwritten (subst K (sym made.plan) made.journal)) in
    let day : WholeDay P l p os rs q (view c.into_frame.result) = (
      s.0,
      chain_day P l unwritten p os rs s.0 q s.1,
      ap view c.into_frame.ensures ∙ s.2.book,
      chain_throughout P l unwritten p os rs s.0 q s.1,
    ) in
    record { day = day; refused = tt; balance = whole_balanced P l p os rs q _ day }
