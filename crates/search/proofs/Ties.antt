-- The set beside the path keeps up with it.
use Rattle.std.proofs.Common.{◌≡◌, ℕ, ◌/◌, ◌<◌, true, ◌&&◌, ltb, List, [], ◌∷◌, ◌++◌, refl, ap, ◌∙◌, ⊎_elim, arith}
use Rattle.std.proofs.lemmas.Bool.{cases_eq, lt-ltb}
use Rattle.sets.specs.declared.set.ComponentSet.{ComponentSet}
use Rattle.sets.specs.Members.{has, joined, left}
use Rattle.sets.proofs.Membership.{has_low, joined_here, joined_else, left_here, left_else}
use Rattle.route.specs.Components.{times}
use Rattle.route.proofs.Counts.{times_push, one_here, one_else}

abbrev Tied : ComponentSet → List ℕ → Type 0
Tied s q = (c : ℕ) → has s c ≡ times c q

pub tied_more : (s s' : ComponentSet) (q q' : List ℕ) (e : ℕ) → Tied s q → has s (e / 4) ≡ 0 → e < 2048 → q' ≡ q ++ e ∷ [] → ((c : ℕ) → has s' c ≡ joined s (e / 4) c) → Tied s' q'
tied_more s s' q q' e tied out low pushed inserted c =
    let k : e / 4 < 512 = omega arith in
    let t = ap (times c) pushed ∙ times_push c e q in
    let i = inserted c in
    let w = tied c in
    ⊎_elim
    (λ (h : c ≡ e / 4).
    let j = joined_here s (e / 4) c k h in
    let o = one_here c e h in
    let z : has s c ≡ 0 = ap (has s) h ∙ out in
    omega arith)
    (λ (h : c ≡ e / 4 → ⊥).
    let j = joined_else s (e / 4) c k h in
    let o = one_else c e h in
    omega arith)
    (cases_eq c (e / 4))

pub tied_less : (s s' : ComponentSet) (q q' : List ℕ) (e k : ℕ) → Tied s q → q ≡ q' ++ e ∷ [] → ((c : ℕ) → has s' c ≡ left s k c) → k ≡ e / 4 → Tied s' q'
tied_less s s' q q' e k tied popped removed its c =
    let t = ap (times c) popped ∙ times_push c e q' in
    let r = removed c ∙ ap (λ n. left s n c) its in
    let w = tied c in
    ⊎_elim
    (λ (h : c ≡ e / 4).
    let j = left_here s (e / 4) c h in
    let o = one_here c e h in
    let low = has_low s c in
    omega arith)
    (λ (h : c ≡ e / 4 → ⊥).
    let j = left_else s (e / 4) c h in
    let o = one_else c e h in
    omega arith)
    (cases_eq c (e / 4))

-- there is room
pub fits : (n e : ℕ) → n < 512 → e < 2048 → (ltb n 512 && ltb e 2048) ≡ true
fits n e h k = rw (lt-ltb n 512 h, lt-ltb e 2048 k) refl
