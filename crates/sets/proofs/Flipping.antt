-- One bit of one word flipped.
use Rattle.std.proofs.Common.{◌≡◌, ℕ, ◌+◌, ◌*◌, ◌/◌, ◌%◌, ◌^◌, ◌<◌, ◌≢◌, List, length, get_or, set, sym, refl, ap, ◌∙◌, ⊎_elim, arith, get_or-set_other, get_or-set_same}
use lib.Bits.{bit_xor}
use Rattle.std.proofs.lemmas.Nat.Bits.{bit_at_xor, bit_at-pow_same, bit_at-pow_other}
use Rattle.std.proofs.lemmas.Bool.{cases_eq}
use Rattle.std.proofs.lemmas.Nat.{one_shl}
use Rattle.sets.specs.Members.{bit, in_words}

abbrev pub flipped : List ℕ → ℕ → List ℕ
flipped ws k = set ws (k / 64) (bit_xor (get_or ws (k / 64) 0) ((1 * 2 ^ (k % 64)) % 2 ^ 64))

flipped_word : (ws : List ℕ) (k j : ℕ) → k / 64 < length ws → j / 64 ≡ k / 64 →
    in_words (flipped ws k) j ≡ (bit (get_or ws (k / 64) 0) (j % 64) + bit (2 ^ (k % 64)) (j % 64)) % 2
flipped_word ws k j h e =
    let lt : k % 64 < 64 = omega arith in
    let v = bit_xor (get_or ws (k / 64) 0) ((1 * 2 ^ (k % 64)) % 2 ^ 64) in
    ap (λ q. bit (get_or (flipped ws k) q 0) (j % 64)) e
    ∙ ap (λ w. bit w (j % 64)) (get_or-set_same ws (k / 64) v 0 h)
    ∙ ap (λ p. bit (bit_xor (get_or ws (k / 64) 0) p) (j % 64)) (one_shl (k % 64) 64 lt)
    ∙ bit_at_xor (get_or ws (k / 64) 0) (2 ^ (k % 64)) (j % 64)

pub flipped_here : (ws : List ℕ) (k : ℕ) → k / 64 < length ws → in_words (flipped ws k) k + in_words ws k ≡ 1
flipped_here ws k h =
    let p = bit_at-pow_same (k % 64) in
    let g = flipped_word ws k k h refl in
    omega arith

pub flipped_others : (ws : List ℕ) (k j : ℕ) → k / 64 < length ws → j ≢ k → in_words (flipped ws k) j ≡ in_words ws j
flipped_others ws k j h n =
    ⊎_elim
    (λ e.
    let ne : j % 64 ≢ k % 64 = omega arith in
    let p = bit_at-pow_other (k % 64) (j % 64) ne in
    let g = flipped_word ws k j h e in
    let r : in_words ws j ≡ bit (get_or ws (k / 64) 0) (j % 64) = ap (λ q. bit (get_or ws q 0) (j % 64)) e in
    let m : (bit (get_or ws (k / 64) 0) (j % 64) + bit (2 ^ (k % 64)) (j % 64)) % 2 ≡ bit (get_or ws (k / 64) 0) (j % 64) = omega arith in
    g ∙ m ∙ sym r)
    (λ d. ap (λ w. bit w (j % 64)) (get_or-set_other ws (k / 64) (j / 64) (bit_xor (get_or ws (k / 64) 0) ((1 * 2 ^ (k % 64)) % 2 ^ 64)) 0 d))
    (cases_eq (j / 64) (k / 64))
