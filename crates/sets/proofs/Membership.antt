-- Membership is 0 or 1, and 0 from 512 on.
use Rattle.std.proofs.Common.{◌≡◌, ℕ, ◌+◌, ◌-◌, ◌*◌, ◌/◌, ◌%◌, ◌^◌, ◌<◌, ◌≤◌, ◌≢◌, w64, false, eqb, get_or, replicate, sym, refl, ap, ◌∙◌, ⊎_elim, arith}
use Rattle.std.proofs.lemmas.List.{get_or_past, get_or-replicate, length-replicate}
use Rattle.std.proofs.lemmas.Bool.{cases_lt, cases_eq, eq-eqb, ne_eqb, eqb-false, lt-ltb}
use Rattle.sets.specs.declared.set.ComponentSet.{ComponentSet}
use Rattle.sets.specs.Members.{has, bit, joined, left}
use Rattle.std.proofs.lemmas.Nat.Bits.{bit_at-zero, bit_at-trailing_zeros}
use Rattle.std.specs.Int.{trailing_zeros}

pub has_low : (s : ComponentSet) (c : ℕ) → has s c ≤ 1
unfolding has
has_low s c = omega arith

zeros : (n i : ℕ) → ◌≡◌ {A = ℕ} (get_or (replicate n 0) i 0) 0
zeros n i =
    ⊎_elim
    (λ h. get_or-replicate {A = ℕ} n i 0 0 h)
    (λ h. get_or_past {X = ℕ} (replicate n 0) i 0 (omega (arith, length-replicate {A = ℕ} n 0)))
    (cases_lt i n)

pub none_in : (s : ComponentSet) → s.words ≡ replicate 8 0 → (c : ℕ) → has s c ≡ 0
unfolding has
none_in s e c = ap (λ ws. bit (get_or ws (c / 64) 0) (c % 64)) e ∙ ap (λ w. bit w (c % 64)) (zeros 8 (c / 64)) ∙ bit_at-zero (c % 64)

pub has_past : (s : ComponentSet) (c : ℕ) → 512 ≤ c → has s c ≡ 0
unfolding has
has_past s c h =
    let e = get_or_past s.words (c / 64) 0 (omega (arith, s.eight)) in
    ap (λ w. bit w (c % 64)) e ∙ bit_at-zero (c % 64)

pub not_in : (s : ComponentSet) (c : ℕ) → eqb (has s c) 1 ≡ false → has s c ≡ 0
not_in s c h = let low = has_low s c in let n = eqb-false (has s c) 1 h in omega arith

pub joined_here : (s : ComponentSet) (k c : ℕ) → k < 512 → c ≡ k → joined s k c ≡ 1
joined_here s k c h e = rw (lt-ltb k 512 h, eq-eqb c k e) refl

pub joined_else : (s : ComponentSet) (k c : ℕ) → k < 512 → (c ≡ k → ⊥) → joined s k c ≡ has s c
joined_else s k c h n = rw (lt-ltb k 512 h, ne_eqb c k n) refl

pub left_here : (s : ComponentSet) (k c : ℕ) → c ≡ k → left s k c ≡ 0
left_here s k c e = rw (eq-eqb c k e) refl

pub left_else : (s : ComponentSet) (k c : ℕ) → (c ≡ k → ⊥) → left s k c ≡ has s c
left_else s k c n = rw (ne_eqb c k n) refl

-- what is not in the set is not taken out of it
pub left_none : (s : ComponentSet) (old : ℕ) → has s old ≡ 0 → (c : ℕ) → has s c ≡ left s old c
left_none s old h c =
    ⊎_elim
    (λ (e : c ≡ old). ap (has s) e ∙ h ∙ sym (left_here s old c e))
    (λ (n : c ≡ old → ⊥). sym (left_else s old c n))
    (cases_eq c old)

-- a word at a time
pub word_none : (s : ComponentSet) (i c : ℕ) → get_or s.words i 0 ≡ 0 → 64 * i ≤ c → c < 64 * (i + 1) → has s c ≡ 0
unfolding has
word_none s i c h low high =
    let e : c / 64 ≡ i = omega arith in
    ap (λ k. bit (get_or s.words k 0) (c % 64)) e ∙ ap (λ w. bit w (c % 64)) h ∙ bit_at-zero (c % 64)

-- the first bit that is one, of the first word that has one
pub first_in_word : (s : ComponentSet) (i : ℕ) → i < 8 → get_or s.words i 0 < 2 ^ 64 → get_or s.words i 0 ≢ 0 → ((c : ℕ) → c < 64 * i → has s c ≡ 0) →
    let c = 64 * i + trailing_zeros w64 (get_or s.words i 0) in (c < 512) × (has s c ≡ 1) × ((k : ℕ) → k < c → has s k ≡ 0)
unfolding has
first_in_word s i h fits some before =
    let w = get_or s.words i 0 in
    let t = trailing_zeros w64 w in
    let f = bit_at-trailing_zeros w64 w (omega arith) fits in
    let here : (k : ℕ) → 64 * i ≤ k → k < 64 * (i + 1) → has s k ≡ bit w (k - 64 * i) =
    λ k low high.
    let q : k / 64 ≡ i = omega arith in
    let r : k % 64 ≡ k - 64 * i = omega arith in
    ap (λ n. bit (get_or s.words n 0) (k % 64)) q ∙ ap (bit w) r in
    let d : 64 * i + t - 64 * i ≡ t = omega arith in (
      omega arith,
      here (64 * i + t) (omega arith) (omega arith) ∙ ap (bit w) d ∙ f.1,
      λ k l.
          ⊎_elim
          (λ (o : k < 64 * i). before k o)
          (λ (o : 64 * i ≤ k). here k o (omega arith) ∙ f.2 (k - 64 * i) (omega arith))
          (cases_lt k (64 * i)),
    )

pub below_words : (s : ComponentSet) (i : ℕ) → ((c : ℕ) → c < 64 * i → has s c ≡ 0) → ((c : ℕ) → 64 * i ≤ c → c < 64 * (i + 1) → has s c ≡ 0) → (c : ℕ) → c < 64 * (i + 1) → has s c ≡ 0
below_words s i before here c h = ⊎_elim (λ k. before c k) (λ k. here c k h) (cases_lt c (64 * i))
