-- Counting one by one.
use Rattle.std.proofs.Common.{◌≡◌, ℕ, zero, suc, ◌+◌, ◌<◌, Bool, cond, refl, add-one, arith}
use Rattle.file.specs.Members.{tally}

pub tally_none : (f : ℕ → Bool) → tally 0 f ≡ 0
unfolding tally
tally_none f = refl

pub tally_more : (n : ℕ) (f : ℕ → Bool) → tally (n + 1) f ≡ tally n f + cond (f n) 1 0
unfolding tally
tally_more n f = rw add-one

-- tests that agree count alike
pub tally_same : (n : ℕ) (f g : ℕ → Bool) → ((i : ℕ) → i < n → f i ≡ g i) → tally n f ≡ tally n g
unfolding tally
tally_same zero f g h = refl
tally_same (suc n) f g h =
    let e = tally_same n f g (λ i k. h i (omega arith)) in
    let d = h n (omega arith) in cc
