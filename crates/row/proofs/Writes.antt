-- A row written word by word.
use Rattle.std.proofs.Common.{◌≡◌, ℕ, ◌+◌, ◌*◌, ◌<◌, ◌≤◌, List, ◌++◌, length, get_or, take, sym, ap, ◌∙◌, arith}
use Rattle.std.proofs.lemmas.List.{length-take-le, take_all, take_more}
use Rattle.numbers.specs.Stored.{word}
use Rattle.row.specs.Put.{put}
use Rattle.row.specs.Row.{words, bytes_of}
use Rattle.row.proofs.Puts.{put_more}
use Rattle.row.proofs.Rows.{length_words, words_push}

-- one entry more
pub write_more : (s es : List ℕ) (i : ℕ) → i < length es → 2 + 2 * length es ≤ length s →
    put (put s 2 (words (take i es))) (2 + 2 * i) (word (get_or es i 0)) ≡ put s 2 (words (take (i + 1) es))
write_more s es i h room =
    let done = words (take i es) in
    let w = length_words (take i es) in
    let l = length-take-le i es (omega arith) in
    let at : 2 + 2 * i ≡ 2 + length done = omega arith in
    let grown : done ++ word (get_or es i 0) ≡ words (take (i + 1) es) =
    sym (words_push (take i es) (get_or es i 0)) ∙ ap words (sym (take_more es i 0 h)) in
    ap (λ p. put (put s 2 done) p (word (get_or es i 0))) at ∙ put_more s 2 done (word (get_or es i 0)) (omega arith) ∙ ap (put s 2) grown

-- the count and all entries
pub write_all : (s es : List ℕ) (i : ℕ) → length es ≤ i → 2 ≤ length s →
    put (put s 0 (word (length es))) 2 (words (take i es)) ≡ put s 0 (bytes_of es)
write_all s es i h room =
    ap (λ xs. put (put s 0 (word (length es))) 2 (words xs)) (take_all i es h) ∙ put_more s 0 (word (length es)) (words es) room
