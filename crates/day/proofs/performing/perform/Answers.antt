use Rattle.std.proofs.Common.{◌≡◌, length, refl, ◌∙◌, arith}
use Rattle.std.proofs.lemmas.List.{with_items_is}
use Rattle.day.proofs.Steps.{performs}
use Rattle.day.proofs.performing.perform.Goals as goal

pub returns-in-Turn : goal.returns-in-Turn
returns-in-Turn g c =
    let before = c.deref_mut.ensures.value in
    let long : length c.turn-answer.new.space ≡ c.in-Turn.space.len = c.turn-answer.auto.space ∙ c.deref_mut.ensures.len in
    let after = with_items_is c.in-Turn.space c.turn-answer.new.space long in
    rw c.in-Turn.is (performs _ _ _ _ _ _ _ _ (_, c.turn-answer.result, refl, cc, refl) c.turn-answer.ensures.journal (omega arith) refl)

pub returns-in-Restart : goal.returns-in-Restart
returns-in-Restart g c = rw c.in-Restart.is (performs _ _ _ _ _ _ _ _ (refl, refl, refl) c.restart.ensures.journal (omega arith) refl)

pub returns-in-Throw : goal.returns-in-Throw
returns-in-Throw g c = rw c.in-Throw.is (performs _ _ _ _ _ _ _ _ (c.throw.result, refl, refl, refl) c.throw.ensures.journal (omega arith) refl)

pub returns-in-Occupy : goal.returns-in-Occupy
returns-in-Occupy g c = rw c.in-Occupy.is (performs _ _ _ _ _ _ _ _ (c.occupy.result, refl, refl, refl) c.occupy.ensures.journal (omega arith) refl)

pub returns-in-Clear : goal.returns-in-Clear
returns-in-Clear g c = rw c.in-Clear.is (performs _ _ _ _ _ _ _ _ (c.clear.result, refl, refl, refl) c.clear.ensures.journal (omega arith) refl)
