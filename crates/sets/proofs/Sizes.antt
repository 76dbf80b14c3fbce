-- How many components a set has, as it grows and shrinks.
use Rattle.std.proofs.Common.{◌≡◌, ℕ, zero, suc, ◌+◌, ◌<◌, ◌≤◌, sym, refl, ap, ◌∙◌, ⊎_elim, arith}
use Rattle.std.proofs.lemmas.Bool.{cases_eq}
use Rattle.sets.specs.declared.set.ComponentSet.{ComponentSet}
use Rattle.sets.specs.Members.{has, joined, left, sum_below, size}
use Rattle.sets.proofs.Counting.{sum_same, sum_le}
use Rattle.sets.proofs.Membership.{has_low, joined_here, joined_else, left_here, left_else}

-- a sum in which one place differs
sum_change : (f g : ℕ → ℕ) (k n : ℕ) → k < n → ((c : ℕ) → (c ≡ k → ⊥) → f c ≡ g c) → sum_below f n + g k ≡ sum_below g n + f k
unfolding sum_below
sum_change f g k zero h same = absurd (omega arith)
sum_change f g k (suc n) h same =
    ⊎_elim
    (λ (e : k ≡ n).
    let s = sum_same f g n (λ c l. same c (omega arith)) in
    let a = ap f e in
    let b = ap g e in
    omega arith)
    (λ (d : k ≡ n → ⊥).
    let s = sum_change f g k n (omega arith) same in
    let a = same n (λ e. d (sym e)) in
    omega arith)
    (cases_eq k n)

pub size_most : (s : ComponentSet) → size s ≤ 512
size_most s = sum_le (has s) 512 (has_low s)

pub size_joined : (s s' : ComponentSet) (k : ℕ) → k < 512 → has s k ≡ 0 → ((c : ℕ) → has s' c ≡ joined s k c) → size s' ≡ size s + 1
size_joined s s' k low out inserted =
    let t = sum_change (has s') (has s) k 512 low (λ c d. inserted c ∙ joined_else s k c low d) in
    let one = inserted k ∙ joined_here s k k low refl in
    omega arith

pub size_left : (s s' : ComponentSet) (k : ℕ) → k < 512 → has s k ≡ 1 → ((c : ℕ) → has s' c ≡ left s k c) → size s' + 1 ≡ size s
size_left s s' k low inside removed =
    let t = sum_change (has s') (has s) k 512 low (λ c d. removed c ∙ left_else s k c d) in
    let none = removed k ∙ left_here s k k refl in
    omega arith
