-- One turn of the search, on positions.
use Rattle.std.proofs.Common.{◌≡◌, ℕ, ◌+◌, ◌<◌, ◌≤◌, true, false, List, [], ◌∷◌, ◌++◌, length, Some, None, sym, refl, ap, ◌∙◌, subst, arith}
use Rattle.plan.specs.Layout.{Layout}
use Rattle.route.specs.Paths.{Ends}
use Rattle.route.specs.Growth.{May, Begun}
use Rattle.search.specs.declared.position.Position.{Position}
use Rattle.search.specs.View.{path_of, Retreated}
use Rattle.search.specs.Found.{Least, Found, Descended}
use Rattle.search.specs.Reach.{BarrenBelow}
use Rattle.search.proofs.Forward.{Ahead, begun_more, ahead_hit, ahead_down, ahead_below, ahead_over}
use Rattle.search.proofs.Retreats.{ahead_retreat}
use Rattle.search.proofs.Bounds.{left, falls_down, falls_back, taken_small}

-- what the search from `p` keeps, at the position `at` from the entry `f` on
abbrev pub Keeps : Layout → List ℕ → Position → ℕ → Type 0
Keeps l p at f = (f ≤ 2048) × (Begun l p → Ahead l p (path_of at) f)

module _ (l : Layout) (p : List ℕ) (at : Position) (f : ℕ) (kept : Keeps l p at f) where
  -- one entry further down; `s` is what a slice showed of the path
  module _ (at' : Position) (d : ℕ) (down : Descended l f at at' (Some d)) (s : List ℕ) (shown : s ≡ path_of at') where
    same : path_of at ++ d ∷ [] ≡ s
    same = sym (shown ∙ down.0)

    least : Begun l p → Least (May l (path_of at)) f (Some d)
    least g = down.2 (kept.1 g).begun

    begun_here : Begun l p → Begun l s
    begun_here g = let F : List ℕ → Type 0 = λ x. Begun l x in subst F same (begun_more l p (path_of at) f d (kept.1 g) (least g))

    pub turn_hit : (Begun l s → Ends l s) → Begun l p → Found l p (path_of at') true
    turn_hit ends g =
        let E : List ℕ → Type 0 = λ x. Ends l x in
        let F : List ℕ → Type 0 = λ x. Found l p x true in
        subst F (sym down.0) (ahead_hit l p (path_of at) f d (kept.1 g) (least g) (subst E (sym same) (ends (begun_here g))))

    -- from the entry `n` on, below which no route goes on
    pub turn_down : (Begun l s → Ends l s → ⊥) → (n : ℕ) → n ≤ 2048 → BarrenBelow l (path_of at') n → Keeps l p at' n
    turn_down ends n few none = (
      few,
      λ g.
          let E : List ℕ → Type 0 = λ x. Ends l x in
          let F : List ℕ → Type 0 = λ x. Ahead l p x 0 in
          ahead_below l p (path_of at') n
          (subst F (sym down.0) (ahead_down l p (path_of at) f d (kept.1 g) (least g) (λ k. ends (begun_here g) (subst E same k))))
          none,
    )

    pub turn_down_less : (g : ℕ) → left (path_of at') g < left (path_of at) f
    turn_down_less g = falls_down at at' f d g kept.0 down.1 down.0

  -- nothing further down, and back
  module _ (stay back : Position) (none : Descended l f at stay None) where
    still : path_of stay ≡ path_of at
    still = ap path_of none.0

    pub turn_over : (path_of stay ≡ []) × (path_of back ≡ []) → Begun l p → Found l p (path_of back) false
    turn_over empty g =
        let q : path_of at ≡ [] = sym still ∙ empty.0 in
        let A : List ℕ → Type 0 = λ x. Ahead l p x f in
        let M : List ℕ → Type 0 = λ x. Least (May l x) f None in
        let F : List ℕ → Type 0 = λ x. Found l p x false in
        subst F (sym empty.1) (ahead_over l p f (subst A q (kept.1 g)) (subst M q (none.1 (kept.1 g).begun)))

    module _ (e : ℕ) (taken : Retreated (path_of stay) (path_of back) (Some e)) where
      was : path_of at ≡ path_of back ++ e ∷ taken.0
      was = sym still ∙ taken.1

      pub turn_back : Keeps l p back (e + 1)
      turn_back = (
        (let s = taken_small at (path_of back) taken.0 e was in omega arith),
        λ g.
            let A : List ℕ → Type 0 = λ x. Ahead l p x f in
            let M : List ℕ → Type 0 = λ x. Least (May l x) f None in
            ahead_retreat l p (path_of back) e (length taken.0) taken.0 f refl taken.2 (subst A was (kept.1 g)) (subst M was (none.1 (kept.1 g).begun)),
      )

      pub turn_back_less : left (path_of back) (e + 1) < left (path_of at) f
      turn_back_less = falls_back at (path_of back) taken.0 f e kept.0 was
