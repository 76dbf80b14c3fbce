use Rattle.std.proofs.Common.{ℕ, ◌<◌, ◌≤◌, List, [], ◌∷◌, ◌++◌, length, Ok, Err, Some, None, vec_items, refl, ap, ◌∙◌, inl, inr, arith, rules}
use Rattle.std.specs.List.{remove}
use Rattle.std.proofs.lemmas.List.{length-map, map_push}
use Rattle.frame.specs.declared.slip.Slip.{Slip}
use Rattle.signal_box.specs.Journal.Event.{Released}
use Rattle.day.specs.declared.orders.Answer.TheVariants as says
use Rattle.day.specs.Pool.{serials}
use Rattle.day.proofs.Steps.{slip_at, serials_removed, performs}
use Rattle.day.proofs.performing.release.Goals as goal

pub returns-then-place-len : goal.returns-then-place-len
returns-then-place-len g c =
    let past : length (vec_items c.args.pool.now) ≤ c.args.place = search rules in
    record {
      plan = refl;
      step = λ j kept. (None, inr (simp length-map past, refl, refl, refl), tt, kept);
      len = omega arith;
      capacity = refl;
    }

pub returns-in-Ok : goal.returns-in-Ok
returns-in-Ok g c =
    let pool = vec_items c.args.pool.now in
    let below : c.args.place < length pool = search rules in
    let at = slip_at pool c.args.place c.remove-slip.result below c.remove-slip.ensures.value in
    let removed = serials_removed pool _ c.args.place c.remove-slip.ensures.items in
    let answer = ap (λ n. says.Released n (Ok tt)) (c.serial-serial.ensures ∙ at) in
    let event = ap (λ n. Some (Released n (Ok tt))) at in
    let len = c.remove-slip.ensures.len in
    performs _ _ _ _ _ _ _ _ (inl (simp length-map below, (Ok tt, answer, event, removed))) c.in-Ok.ensures.journal (omega arith) c.remove-slip.ensures.capacity

pub returns-in-Err : goal.returns-in-Err
returns-in-Err g c =
    let pool = vec_items c.args.pool.now in
    let fault = c.in-Err.fault in
    let below : c.args.place < length pool = search rules in
    let at = slip_at pool c.args.place c.remove-slip.result below c.remove-slip.ensures.value in
    let removed = serials_removed pool _ c.args.place c.remove-slip.ensures.items in
    let answer = ap (λ n. says.Released n (Err fault)) (c.serial-serial.ensures ∙ at) in
    let event = ap (λ n. Some (Released n (Err fault))) at in
    let last =
    ap serials c.push_reserved.ensures.items
    ∙ map_push (λ (y : Slip). y.serial) (vec_items c.remove-slip.new.self) c.in-Err.slip
    ∙ ap (λ (ns : List ℕ). ns ++ c.in-Err.slip.serial ∷ []) removed
    ∙ ap (λ n. remove (serials pool) c.args.place ++ n ∷ []) (ap (λ (y : Slip). y.serial) c.in-Err.ensures.kept.0 ∙ at) in
    let less = c.remove-slip.ensures.len in
    let more = c.push_reserved.ensures.len in
    performs _ _ _ _ _ _ _ _ (inl (simp length-map below, (Err fault, answer, event, last))) c.in-Err.ensures.journal (omega arith) (c.push_reserved.ensures.capacity ∙ c.remove-slip.ensures.capacity)
