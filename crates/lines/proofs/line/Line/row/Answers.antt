use Rattle.std.proofs.Common.{◌+◌, [], ◌∷◌, ◌++◌, length, take, get_or, sym, refl, ap, ◌∙◌, arith, length-append}
use Rattle.std.proofs.lemmas.List.{take_all}
use Rattle.numbers.specs.Stored.{number}
use Rattle.row.proofs.Puts.{put_none}
use Rattle.row.proofs.Rows.{row_parts}
use Rattle.lines.specs.Lines.{shown}
use Rattle.lines.proofs.Pairs.{spaced, spaced_more, spaced_front, front_small, last_small, row_pairs}
use Rattle.lines.proofs.Writing.{room_left, written_more}
use Rattle.lines.proofs.line.Line.row.Goals as goal

pub returns-in_default : goal.returns-in_default
returns-in_default c =
    let p = row_parts c.args.row.now c.requires.row in
    let k = c.pairs.ensures.count in
    absurd (omega (arith, c.in_default.ensures.cases))

pub loop-pair-init : goal.loop-pair-init
loop-pair-init c = let l = c.args.self.now in record { left = sym (put_none l.space.now l.at); next = omega arith; held = refl }

pub pair-requires-clause-small : goal.pair-requires-clause-small
pair-requires-clause-small c =
    front_small _ _ _ _ c.requires.row c.pairs.ensures.numbers c.in-Some.ensures.cases.0 c.loop-pair.pair-index c.loop-pair-test.true

pub pair-requires-2-clause-small : goal.pair-requires-2-clause-small
pair-requires-2-clause-small c = last_small _ _ _ _ c.requires.row c.pairs.ensures.numbers c.in-Some.ensures.cases.0

pub pair-requires-clause-room : goal.pair-requires-clause-room
pair-requires-clause-room c =
    let front = c.in-Some.front.now in
    let i = c.loop-pair.pair-index in
    let whole = row_pairs _ _ front _ c.requires.row c.pairs.ensures.numbers c.in-Some.ensures.cases.0 in
    let l = ap length whole ∙ length-append (spaced front) (shown (number c.in-Some.last.now 0) ++ 10 ∷ []) in
    let m = ap length (spaced_more front i c.loop-pair-test.true) in
    let f = spaced_front front (i + 1) in
    room_left c.args.self.now c.loop-pair.self (spaced (take i front)) (shown (number (get_or front i []) 0) ++ 32 ∷ []) (omega (arith, c.requires.room)) c.loop-pair.invariant

pub loop-pair-preserved : goal.loop-pair-preserved
loop-pair-preserved c =
    let front = c.in-Some.front.now in
    let i = c.loop-pair.pair-index in
    let whole = row_pairs _ _ front _ c.requires.row c.pairs.ensures.numbers c.in-Some.ensures.cases.0 in
    let l = ap length whole ∙ length-append (spaced front) (shown (number c.in-Some.last.now 0) ++ 10 ∷ []) in
    let m = spaced_more front i c.loop-pair-test.true in
    let k = ap length m in
    let f = spaced_front front (i + 1) in
    rw m (written_more c.args.self.now c.loop-pair.self (spaced (take i front)) (shown (number (get_or front i []) 0) ++ 32 ∷ []) (omega (arith, c.requires.room)) c.loop-pair.invariant _ c.pair.ensures)

pub pair-requires-2-clause-room : goal.pair-requires-2-clause-room
pair-requires-2-clause-room c =
    let front = c.in-Some.front.now in
    let whole = row_pairs _ _ front _ c.requires.row c.pairs.ensures.numbers c.in-Some.ensures.cases.0 in
    let done = rw (take_all c.loop-pair.pair-index front (omega arith)) at c.loop-pair.invariant in
    room_left c.args.self.now c.loop-pair.self (spaced front) (shown (number c.in-Some.last.now 0) ++ 10 ∷ []) (rw whole at c.requires.room) done

pub returns : goal.returns
returns c =
    let front = c.in-Some.front.now in
    let whole = row_pairs _ _ front _ c.requires.row c.pairs.ensures.numbers c.in-Some.ensures.cases.0 in
    let done = rw (take_all c.loop-pair.pair-index front (omega arith)) at c.loop-pair.invariant in
    rw whole (written_more c.args.self.now c.loop-pair.self (spaced front) (shown (number c.in-Some.last.now 0) ++ 10 ∷ []) (rw whole at c.requires.room) done _ c.pair-2.ensures)
