-- A path is a list that has grown, and is not empty.
use Rattle.std.proofs.Common.{◌≡◌, ℕ, zero, suc, ◌-◌, ◌/◌, ◌<◌, List, [], ◌∷◌, length, get_or, take, sym, refl, ap, ◌∙◌, subst, add-one, arith}
use Rattle.std.proofs.lemmas.List.{get_or-take, length-take-le}
use Rattle.plan.specs.declared.parts.Direction.{Direction}
use Rattle.plan.specs.Layout.{Layout, direction_of}
use Rattle.route.specs.Paths.{Follows, heading, last_of, Path}
use Rattle.route.specs.Growth.{Next, Begun}

abbrev T : Type 0 → Type 0
T X = X

next_is : (l : Layout) (q : List ℕ) (e : ℕ) → 0 < length q → Next l q e ≡ Follows l (heading l q) (last_of q) e
next_is l [] e h = absurd (omega arith)
next_is l (s ∷ q) e h = refl

module _ (l : Layout) (es : List ℕ) (j : ℕ) (h : suc j < length es) where
  front_length : length (take (suc j) es) ≡ suc j
  front_length = length-take-le (suc j) es (omega arith)

  front_heading : heading l (take (suc j) es) ≡ heading l es
  front_heading = ap (λ x. direction_of (l.kind (x / 4))) (get_or-take (suc j) es 0 0 (omega arith))

  front_last : last_of (take (suc j) es) ≡ get_or es j 0
  front_last =
      let e : length (take (suc j) es) - 1 ≡ j = omega (arith, front_length) in
      ap (λ n. get_or (take (suc j) es) n 0) e ∙ get_or-take (suc j) es j 0 (omega arith)

  -- what comes next after the front of the list follows the entry before it
  next_here : Next l (take (suc j) es) (get_or es (suc j) 0) ≡ Follows l (heading l es) (get_or es j 0) (get_or es (suc j) 0)
  next_here =
      next_is l (take (suc j) es) (get_or es (suc j) 0) (omega (arith, front_length))
      ∙ ap (λ (d : Direction). Follows l d (last_of (take (suc j) es)) (get_or es (suc j) 0)) front_heading
      ∙ ap (λ (x : ℕ). Follows l (heading l es) x (get_or es (suc j) 0)) front_last

pub next_at : (l : Layout) (es : List ℕ) (i : ℕ) → 0 < i → i < length es → Next l (take i es) (get_or es i 0) ≡ Follows l (heading l es) (get_or es (i - 1) 0) (get_or es i 0)
next_at l es zero z h = absurd (omega arith)
next_at l es (suc j) z h =
    let e : j ≡ suc j - 1 = omega arith in
    next_here l es j h ∙ ap (λ (k : ℕ). Follows l (heading l es) (get_or es k 0) (get_or es (suc j) 0)) e

pub begun_path : (l : Layout) (es : List ℕ) → 0 < length es → Begun l es → Path l es
begun_path l es some g = record {
  some = some;
  starts = (g 0 some).0;
  follows = λ i h.
      let F : ℕ → Type 0 = λ n. Follows l (heading l es) (get_or es i 0) (get_or es n 0) in
      subst F (sym (add-one i)) (subst T (next_here l es i (omega arith)) (g (suc i) (omega arith)).0);
  apart = λ i j.
      elim j as (λ n. i < n → n < length es → get_or es i 0 / 4 ≡ get_or es n 0 / 4 → ⊥) [
        | zero ↦ λ h k e. omega arith
        | suc n ↦ λ h k e.
            let s : i < length (take (suc n) es) = omega (arith, front_length l es n k) in
            (g (suc n) k).1 i s (ap (λ x. x / 4) (get_or-take (suc n) es i 0 h) ∙ e)
      ];
}

pub path_begun : (l : Layout) (es : List ℕ) → Path l es → Begun l es
path_begun l es p zero h = (p.starts, λ k i. absurd (omega arith))
path_begun l es p (suc j) h =
    let F : ℕ → Type 0 = λ n. Follows l (heading l es) (get_or es j 0) (get_or es n 0) in (
      subst T (sym (next_here l es j h)) (subst F (add-one j) (p.follows j (omega arith))),
      λ k i e.
          let s : k < suc j = omega (arith, front_length l es j h) in
          p.apart k (suc j) s h (ap (λ x. x / 4) (sym (get_or-take (suc j) es k 0 s)) ∙ e),
    )
