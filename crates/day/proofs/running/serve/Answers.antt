use Rattle.std.proofs.Common.{◌≡◌, List, [], ◌++◌, vec_items, sym, refl, ap, ◌∙◌, subst, rules}
use Rattle.std.proofs.lemmas.List.{append_assoc, append-nil, nil_from_length}
use Rattle.day.specs.declared.orders.Order.{Order}
use Rattle.day.specs.declared.orders.Answer.{Answer}
use Rattle.day.specs.Pool.{serials}
use Rattle.day.specs.Chain.{Served}
use Rattle.day.proofs.Days.{served_none, served_more}
use Rattle.day.proofs.running.serve.Goals as goal

pub loop-order-init : goal.loop-order-init
loop-order-init g c =
    let l = g.P.Plan.layout c.args.station.now.register.plan in
    let p = serials (vec_items c.reserve.new.self) in
    let empty : vec_items c.in_ok-answers.answers ≡ [] = search rules in
    record {
      can_next = tt;
      is_finite = tt;
      served = λ j kept. let F : List Answer → Type 0 = λ rs. Served l j p [] rs p c.args.station.now in subst F (sym empty) (served_none l j p c.args.station.now kept);
      plan = refl;
      slips_fit = search rules;
      answers_fit = search rules;
      orders = refl;
    }

pub loop-order-preserved : goal.loop-order-preserved
loop-order-preserved g c = record {
  can_next = tt;
  is_finite = tt;
  served = λ j kept. served_more g.P.Plan.layout _ _ j _ c.loop-order.yielded _ _ _ _ _ _ _ _ c.loop-order.invariant.plan (c.loop-order.invariant.served j kept) c.perform.ensures.step c.push_reserved.ensures.items;
  plan = c.perform.ensures.plan ∙ c.loop-order.invariant.plan;
  slips_fit = search rules;
  answers_fit = search rules;
  orders = c.loop-order.invariant.orders ∙ ap (λ (os : List Order). c.loop-order.yielded ++ os) c.in-Some.ensures.steps.0 ∙ sym (append_assoc c.loop-order.yielded _ _);
}

pub returns-clause-served : goal.returns-clause-served
returns-clause-served g c = λ j kept.
    let none : c.loop-order.order-iterator.rest.items ≡ [] = nil_from_length c.loop-order.order-iterator.rest.items (sym c.loop-order.order-iterator.rest.ok.0 ∙ c.in-None.ensures.steps.0) in
    let all =
    sym (c.loop-order.invariant.orders ∙ ap (λ (os : List Order). c.loop-order.yielded ++ os) none ∙ append-nil c.loop-order.yielded)
    ∙ c.into_iter-order-iterator.ensures.into_iter_gives.0 in
    rw (c.reserve.ensures.items, all) at (c.loop-order.invariant.served j kept)
