use Rattle.std.proofs.Common.{Ok, Err, vec_items, refl, arith}
use Rattle.std.proofs.lemmas.List.{map_push}
use Rattle.frame.specs.declared.slip.Slip.{Slip}
use Rattle.day.proofs.Steps.{performs}
use Rattle.day.proofs.performing.open.Goals as goal

pub returns-in-Ok : goal.returns-in-Ok
returns-in-Ok g c =
    let row = c.deref.ensures.value in
    let told = c.serial-serial.ensures in
    let items = c.push_reserved.ensures.items in
    let pushed = map_push (λ (y : Slip). y.serial) (vec_items c.args.pool.now) c.in-Ok.slip in
    let len = c.push_reserved.ensures.len in
    performs _ _ _ _ _ _ _ _ (Ok c.serial-serial.result, refl, cc, cc) c.in-Ok.ensures.journal (omega arith) c.push_reserved.ensures.capacity

pub returns : goal.returns
returns g c =
    let row = c.deref.ensures.value in
    performs _ _ _ _ _ _ _ _ (Err c.in-Err.fault, refl, cc, refl) c.in-Err.ensures.journal (omega arith) refl
