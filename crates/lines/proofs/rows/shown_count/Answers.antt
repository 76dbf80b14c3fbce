use Rattle.std.proofs.Common.{◌≡◌, ◌/◌, length, is_some, refl, sym, ap, ◌∙◌, arith, length-append}
use mir.Val.{bool_byte}
use Rattle.entry.specs.Lies.{lie_of}
use Rattle.lines.specs.Decimal.{decimal}
use Rattle.lines.specs.Lines.{letter}
use Rattle.lines.proofs.Shown.{shown_as, letter_count, length_letter}
use Rattle.lines.proofs.rows.shown_count.Goals as goal

pub returns : goal.returns
returns c =
    let e = c.args.e in
    let s = ap length (shown_as e (lie_of e) refl) ∙ length-append (decimal (e / 4)) (letter (lie_of e)) in
    let d : c.digit_count.result ≡ length (decimal (e / 4)) = c.digit_count.ensures.value ∙ ap (λ n. length (decimal n)) (omega arith) in
    let l = c.from-2.ensures ∙ ap bool_byte (c.is_some.ensures ∙ ap is_some c.lie.ensures) ∙ sym (letter_count (lie_of e)) in
    let few = c.digit_count.ensures.few in
    let one = length_letter (lie_of e) in
    record { value = omega arith; few = omega arith }
