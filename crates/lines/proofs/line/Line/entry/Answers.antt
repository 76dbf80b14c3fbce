use Rattle.std.proofs.Common.{◌/◌, [], ◌∷◌, length, Some, None, refl, sym, ap, ◌∙◌, append-nil, arith, length-append}
use Rattle.plan.specs.declared.parts.Position.TheVariants.{Normal, Reverse}
use Rattle.entry.specs.Lies.{lie_of}
use Rattle.lines.specs.Decimal.{decimal}
use Rattle.lines.specs.Lines.{letter}
use Rattle.lines.proofs.Shown.{shown_as}
use Rattle.lines.proofs.Writing.{room_left, written_more}
use Rattle.lines.proofs.line.Line.entry.Goals as goal

pub small-requires-clause-room : goal.small-requires-clause-room
small-requires-clause-room c =
    let e = c.args.e in
    let s = ap length (shown_as e (lie_of e) refl) ∙ length-append (decimal (e / 4)) (letter (lie_of e)) in
    rw c.component.ensures (omega arith)

pub byte-requires : goal.byte-requires
byte-requires c =
    let e = shown_as c.args.e (Some Normal) (sym c.lie.ensures ∙ c.in-Some-Normal.is ∙ ap Some c.in-Some-Normal.field-0-is) in
    let w = rw c.component.ensures at c.small.ensures in
    room_left c.args.self.now c.small.new.self (decimal (c.args.e / 4)) (78 ∷ []) (rw e at c.requires.room) w

pub byte-requires-in-Some-Reverse : goal.byte-requires-in-Some-Reverse
byte-requires-in-Some-Reverse c =
    let e = shown_as c.args.e (Some Reverse) (sym c.lie.ensures ∙ c.in-Some-Reverse.is ∙ ap Some c.in-Some-Reverse.field-0-is) in
    let w = rw c.component.ensures at c.small.ensures in
    room_left c.args.self.now c.small.new.self (decimal (c.args.e / 4)) (82 ∷ []) (rw e at c.requires.room) w

pub returns-in-Some-Normal : goal.returns-in-Some-Normal
returns-in-Some-Normal c =
    let e = shown_as c.args.e (Some Normal) (sym c.lie.ensures ∙ c.in-Some-Normal.is ∙ ap Some c.in-Some-Normal.field-0-is) in
    let w = rw c.component.ensures at c.small.ensures in
    rw e (written_more _ _ _ (78 ∷ []) (rw e at c.requires.room) w _ c.byte.ensures)

pub returns-in-Some-Reverse : goal.returns-in-Some-Reverse
returns-in-Some-Reverse c =
    let e = shown_as c.args.e (Some Reverse) (sym c.lie.ensures ∙ c.in-Some-Reverse.is ∙ ap Some c.in-Some-Reverse.field-0-is) in
    let w = rw c.component.ensures at c.small.ensures in
    rw e (written_more _ _ _ (82 ∷ []) (rw e at c.requires.room) w _ c.byte-in-Some-Reverse.ensures)

pub returns-in-None : goal.returns-in-None
returns-in-None c =
    let e = shown_as c.args.e None (sym c.lie.ensures ∙ c.in-None.is) ∙ append-nil (decimal (c.args.e / 4)) in
    rw (e, ← c.component.ensures) c.small.ensures
