use Rattle.std.proofs.Common.{◌≡◌, ◌+◌, ◌*◌, get_or, take, Ok, sym, ap, ◌∙◌, arith}
use Rattle.std.proofs.lemmas.Bool.{cond-true, cond-false}
use Rattle.numbers.specs.Stored.{word}
use Rattle.row.specs.Put.{put}
use Rattle.row.specs.Row.{words, bytes_of}
use Rattle.row.proofs.Puts.{put_none, too_short, long_enough}
use Rattle.row.proofs.Rows.{written_read, length_bytes}
use Rattle.row.proofs.Writes.{write_more, write_all}
use Rattle.row.proofs.writing.write_row.Goals as goal

pub returns-then-not-are_entries : goal.returns-then-not-are_entries
returns-then-not-are_entries c =
    let f = sym c.if-not-are_entries.ensures in
    record { told = sym (cond-false _ _ _ f); left = sym (cond-false _ _ _ f); law = written_read }

pub returns-then-space-size : goal.returns-then-space-size
returns-then-space-size c =
    let t = sym c.if-not-are_entries.ensures in
    let l = length_bytes c.args.row.now in
    let short = too_short (bytes_of c.args.row.now) c.args.space.now (omega arith) in
    record { told = short.0 ∙ sym (cond-true _ _ _ t); left = short.1 ∙ sym (cond-true _ _ _ t); law = written_read }

pub loop-i-init : goal.loop-i-init
unfolding words
loop-i-init c = sym (put_none c.put_word.new.space 2)

pub loop-i-preserved : goal.loop-i-preserved
loop-i-preserved c =
    let es = c.args.row.now in
    let i = c.loop-i.i in
    c.put_word-in-loop-i.ensures
    ∙ ap (λ x. put x (2 + 2 * i) (word (get_or es i 0))) c.loop-i.invariant
    ∙ write_more c.put_word.new.space es i (omega arith) (omega arith)

pub returns : goal.returns
returns c =
    let es = c.args.row.now in
    let s = c.args.space.now in
    let i = c.loop-i.i in
    let t = sym c.if-not-are_entries.ensures in
    let l = length_bytes es in
    let long = long_enough (bytes_of es) s (omega arith) in
    let all : c.loop-i.space ≡ put s 0 (bytes_of es) =
    c.loop-i.invariant ∙ ap (λ x. put x 2 (words (take i es))) c.put_word.ensures ∙ write_all s es i (omega arith) (omega arith) in
    record {
      told = ap Ok (sym l) ∙ long.0 ∙ sym (cond-true _ _ _ t);
      left = all ∙ long.1 ∙ sym (cond-true _ _ _ t);
      law = written_read;
    }
