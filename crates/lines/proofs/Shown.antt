-- An entry in print, and the line of entries.
use Rattle.std.proofs.Common.{◌≡◌, ℕ, suc, ◌+◌, ◌*◌, ◌/◌, ◌<◌, ◌≤◌, true, List, [], ◌∷◌, ◌++◌, length, is_some, Some, None, Option, get_or, refl, ap, suc-le-suc, arith, length-append}
use mir.Val.{bool_byte}
use Rattle.plan.specs.declared.parts.Position.{Position}
use Rattle.plan.specs.declared.parts.Position.TheVariants.{Normal, Reverse}
use Rattle.entry.specs.Lies.{lie_of}
use Rattle.row.specs.Row.{is_row, entries_of}
use Rattle.row.proofs.Rows.{entry_at, entry_parts, length_entries, row_parts}
use Rattle.numbers.specs.Stored.{number}
use Rattle.lines.specs.Decimal.{decimal}
use Rattle.lines.specs.Lines.{letter, shown, stop, row_line}
use Rattle.lines.proofs.Decimals.{length_small}

-- an entry whose lie is known
pub shown_as : (e : ℕ) (o : Option Position) → lie_of e ≡ o → shown e ≡ decimal (e / 4) ++ letter o
unfolding shown
shown_as e o h = ap (λ x. decimal (e / 4) ++ letter x) h

pub letter_count : (o : Option Position) → length (letter o) ≡ bool_byte (is_some o)
letter_count None = refl
letter_count (Some Normal) = refl
letter_count (Some Reverse) = refl

pub length_letter : (o : Option Position) → length (letter o) ≤ 1
length_letter None = omega arith
length_letter (Some Normal) = omega arith
length_letter (Some Reverse) = omega arith

pub length_shown : (e : ℕ) → e < 2048 → length (shown e) ≤ 4
unfolding shown
length_shown e h =
    let l = length-append (decimal (e / 4)) (letter (lie_of e)) in
    let d = length_small (e / 4) (omega arith) in
    let z = length_letter (lie_of e) in
    omega arith

-- the line of small entries takes at most five bytes for each
line_most : (es : List ℕ) → ((i : ℕ) → i < length es → get_or es i 0 < 2048) → length (row_line es) ≤ 5 * length es
unfolding row_line
line_most [] small = omega arith
line_most (e ∷ es) small =
    let l = length-append (shown e) (stop es ∷ row_line es) in
    let s = length_shown e (small 0 (omega arith)) in
    let r = line_most es (λ i h. small (suc i) (suc-le-suc h)) in
    omega arith

pub row_most : (s : List ℕ) → is_row s ≡ true → length (row_line (entries_of s)) ≤ 5 * number s 0
row_most s r =
    let n = length_entries s in
    let small : (i : ℕ) → i < number s 0 → number s (2 + 2 * i) < 2048 = λ i h. (entry_parts _ ((row_parts s r).3 i h)).0 in
    let m = line_most (entries_of s) (λ i h. let k : i < number s 0 = omega arith in let e = entry_at s i k in let b = small i k in omega arith) in
    omega arith
