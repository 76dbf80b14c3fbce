-- Going back past entries that no other can stand in the place of.
use Rattle.std.proofs.Common.{◌≡◌, ℕ, zero, suc, ◌+◌, ◌%◌, ◌<◌, ◌≤◌, Bool, true, false, cond, ◌⊎◌, List, [], ◌∷◌, ◌++◌, length, get_or, take, Some, None, Option, sym, ap, ◌∙◌, subst, ⊎_elim, arith, length-append}
use Rattle.std.proofs.lemmas.List.{append_assoc, take_more, take_all, get_or-take, length-take-le}
use Rattle.plan.specs.declared.parts.Kind.{Kind}
use Rattle.plan.specs.declared.parts.Kind.TheVariants.{Signal, Switch, Straight}
use Rattle.plan.specs.declared.parts.Side.{Side}
use Rattle.plan.specs.declared.parts.Port.{Port}
use Rattle.plan.specs.Layout.{Layout, same_side}
use Rattle.route.specs.Paths.{root, trailing, MayLie, Enters, exit_of, heading, last_of}
use Rattle.route.specs.Growth.{May}
use Rattle.route.proofs.Growth.{grown_at}
use Rattle.search.specs.Found.{Least}
use Rattle.search.proofs.Forward.{Ahead, ahead_back}

-- no entry of the list is a switch that lies normal
abbrev pub Settles : List ℕ → Type 0
Settles t = (i : ℕ) → i < length t → get_or t i 0 % 4 ≡ 1 → ⊥

switch_most : (at_root : Bool) (p : Side) (z z' : ℕ) → cond at_root ((z ≡ 1) ⊎ (z ≡ 2)) (z ≡ trailing p) → cond at_root ((z' ≡ 1) ⊎ (z' ≡ 2)) (z' ≡ trailing p) → (z ≡ 1 → ⊥) → z' ≤ z
switch_most true p z z' h k n =
    ⊎_elim
    (λ (a : z ≡ 1). absurd (n a))
    (λ (a : z ≡ 2). ⊎_elim (λ (b : z' ≡ 1). omega arith) (λ (b : z' ≡ 2). omega arith) k)
    h
switch_most false p z z' h k n = omega arith

lie_most : (k : Kind) (p : Side) (z z' : ℕ) → MayLie k p z → MayLie k p z' → (z ≡ 1 → ⊥) → z' ≤ z
lie_most (Signal s) p z z' h j n = omega arith
lie_most (Switch b) p z z' h j n = switch_most (same_side p (root b)) p z z' h j n
lie_most Straight p z z' h j n = omega arith

enters_most : (l : Layout) (o : Option Port) (e e' : ℕ) → Enters l o e → Enters l o e' → (e % 4 ≡ 1 → ⊥) → e' ≤ e
enters_most l None e e' h k n = absurd h
enters_most l (Some p) e e' h k n =
    let z = lie_most (l.kind p.component) p.side (e % 4) (e' % 4) h.1 k.1 n in
    let a = h.0 in
    let b = k.0 in
    omega arith

-- an entry after the first that does not lie normal is the last that may stand there
last_sibling : (l : Layout) (q : List ℕ) (e : ℕ) → 0 < length q → (e % 4 ≡ 1 → ⊥) → May l q e → Least (May l q) (e + 1) None
last_sibling l [] e some n m e' k = absurd (omega arith)
last_sibling l (s ∷ q) e some n m e' k =
    let z = enters_most l (l.far (exit_of l (heading l (s ∷ q)) (last_of (s ∷ q)))) e e' m.0 k.0 n in
    omega arith

pub ahead_retreat : (l : Layout) (p q : List ℕ) (e : ℕ) (n : ℕ) (t : List ℕ) (f : ℕ) → length t ≡ n → Settles t → Ahead l p (q ++ e ∷ t) f → Least (May l (q ++ e ∷ t)) f None → Ahead l p q (e + 1)
ahead_retreat l p q e zero [] f h s a m = ahead_back l p q e f a m
ahead_retreat l p q e zero (x ∷ t) f h s a m = absurd (omega arith)
ahead_retreat l p q e (suc n) t f h s a m =
    let r = q ++ e ∷ take n t in
    let x = get_or t n 0 in
    let low : n < length t = omega arith in
    let whole : t ≡ take n t ++ x ∷ [] =
    sym (take_all (n + 1) t (omega arith)) ∙ take_more t n 0 low in
    let same : q ++ e ∷ t ≡ r ++ x ∷ [] = ap (λ y. q ++ e ∷ y) whole ∙ sym (append_assoc q (e ∷ take n t) (x ∷ [])) in
    let A : List ℕ → Type 0 = λ y. Ahead l p y f in
    let M : List ℕ → Type 0 = λ y. Least (May l y) f None in
    let a' = subst A same a in
    let some : 0 < length r = omega (arith, length-append q (e ∷ take n t)) in
    ahead_retreat l p q e n (take n t) (x + 1) (length-take-le n t (omega arith))
    (λ i k z. let j : i < n = omega (arith, length-take-le n t (omega arith)) in s i (omega arith) (ap (λ y. y % 4) (sym (get_or-take n t i 0 j)) ∙ z))
    (ahead_back l p r x f a' (subst M same m))
    (last_sibling l r x some (s n low) (grown_at (May l) r [] x a'.begun))
