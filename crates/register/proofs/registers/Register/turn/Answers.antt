use Rattle.std.proofs.Common.{◌≡◌, ◌+◌, ◌<◌, length, Err, sym, refl, ap, ◌∙◌, arith}
use Rattle.std.proofs.lemmas.List.{length_push}
use Rattle.std.proofs.lemmas.Result.{err_from_is_err_and}
use Rattle.std.proofs.lemmas.Bool.{eqb-false}
use Rattle.row.specs.Written.{row_told, row_left}
use Rattle.search.specs.View.{path_of}
use Rattle.register.proofs.Handing.{first_more}
use Rattle.register.proofs.Shapes.{route_entries}
use Rattle.register.proofs.States.{stands_next, stands_more, turned_short}
use Rattle.register.proofs.Writing.{not_written, not_touched, written}
use Rattle.register.proofs.registers.Register.turn.Goals as goal

pub returns-in_err-length : goal.returns-in_err-length
returns-in_err-length g c =
    let l = g.P.Plan.layout c.args.self.now.plan in
    let q = path_of c.args.self.now.next in
    let s = c.args.space.now in
    let e = c.in_err-length.field-0.0 in
    let some : length q ≡ 0 → ⊥ = λ z. eqb-false _ 0 (sym c.is_empty.ensures ∙ c.if-is_empty.false) (ap length c.entries.ensures.value ∙ z) in
    let told : Err e ≡ row_told q s = c.in_err-length.ensures.told ∙ ap (λ x. row_told x s) c.entries-2.ensures.value in
    let same : c.write_row.new.space ≡ s = c.in_err-length.ensures.left ∙ ap (λ x. row_left x s) c.entries-2.ensures.value ∙ not_touched q s e told in
    let p = err_from_is_err_and c.from_residual.result c.from_residual.ensures.1 in
    rw (p.1, p.2) record {
      plan = refl;
      refused = (refl, same);
      history = λ rows kept.
          let next = stands_next l rows q kept.stands some in
          let shape = route_entries l (g.P.Plan.lawful c.args.self.now.plan) q next.route in
          let w = not_written q s e told shape in
          let few : length rows < 65535 = let n = kept.count in let k = c.if-self.false in omega arith in
          turned_short {P = g.row.P.Denot} l rows s c.write_row.new.space c.args.self.now e q w.0 next few w.1;
    }

pub returns : goal.returns
returns g c =
    let l = g.P.Plan.layout c.args.self.now.plan in
    let q = path_of c.args.self.now.next in
    let some : length q ≡ 0 → ⊥ = λ z. eqb-false _ 0 (sym c.is_empty.ensures ∙ c.if-is_empty.false) (ap length c.entries.ensures.value ∙ z) in
    let w = written q c.args.space.now c.in_ok-length.length (c.in_ok-length.ensures.told ∙ ap (λ x. row_told x c.args.space.now) c.entries-2.ensures.value) in
    record {
      plan = refl;
      refused = tt;
      history = λ rows kept.
          let next = stands_next l rows q kept.stands some in (
            q,
            next,
            (let n = kept.count in let k = c.if-self.false in omega arith),
            w.0,
            w.1,
            c.in_ok-length.ensures.left ∙ ap (λ x. row_left x c.args.space.now) c.entries-2.ensures.value ∙ w.2,
            record {
              first = first_more l rows q kept.first next;
              count = ap (λ n. n + 1) kept.count ∙ sym (length_push rows q);
              stands = stands_more l rows q (path_of c.next_route.new.at) c.next_route.result kept.first next c.next_route.ensures;
            },
          );
    }
