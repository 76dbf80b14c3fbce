-- A route's entries have the shape of a row.
use Rattle.std.proofs.Common.{◌≡◌, ℕ, ◌%◌, ◌<◌, Bool, true, false, cond, ◌&&◌, ◌⊎◌, List, [], ◌∷◌, length, get_or, take, Some, None, Option, ⊎_elim, arith}
use Rattle.std.proofs.lemmas.Bool.{lt-ltb, le-leb}
use Rattle.plan.specs.declared.parts.Kind.{Kind}
use Rattle.plan.specs.declared.parts.Kind.TheVariants.{Signal, Switch, Straight}
use Rattle.plan.specs.declared.parts.Side.{Side}
use Rattle.plan.specs.declared.parts.Side.TheVariants.{West, East, Branch}
use Rattle.plan.specs.declared.parts.Port.{Port}
use Rattle.plan.specs.Layout.{Layout, Lawful, same_side}
use Rattle.row.specs.Row.{is_entries}
use Rattle.row.proofs.Rows.{ok_from}
use Rattle.route.specs.Paths.{root, trailing, MayLie, Enters, exit_of, heading, last_of, Route}
use Rattle.route.specs.Growth.{Next}
use Rattle.route.proofs.Places.{path_begun}
use Rattle.route.proofs.Ending.{begun_below}
use Rattle.search.proofs.Nexts.{begun_short}

trailing_low : (p : Side) → trailing p < 3
trailing_low West = omega arith
trailing_low East = omega arith
trailing_low Branch = omega arith

lie_of_switch : (at_root : Bool) (p : Side) (z : ℕ) → cond at_root ((z ≡ 1) ⊎ (z ≡ 2)) (z ≡ trailing p) → z < 3
lie_of_switch true p z h = ⊎_elim (λ (e : z ≡ 1). omega arith) (λ (e : z ≡ 2). omega arith) h
lie_of_switch false p z h = let t = trailing_low p in omega arith

lie_low : (k : Kind) (p : Side) (z : ℕ) → MayLie k p z → z < 3
lie_low (Signal s) p z h = omega arith
lie_low (Switch b) p z h = lie_of_switch (same_side p (root b)) p z h
lie_low Straight p z h = omega arith

enters_low : (l : Layout) (o : Option Port) (e : ℕ) → Enters l o e → e % 4 < 3
enters_low l None e h = absurd h
enters_low l (Some p) e h = lie_low (l.kind p.component) p.side (e % 4) h.1

next_low : (l : Layout) (q : List ℕ) (e : ℕ) → Next l q e → e % 4 < 3
next_low l [] e m = omega (arith, m.0)
next_low l (s ∷ q) e m = enters_low l (l.far (exit_of l (heading l (s ∷ q)) (last_of (s ∷ q)))) e m

and_true : (a b : Bool) → a ≡ true → b ≡ true → (a && b) ≡ true
and_true a b h k = cc

pub route_entries : (l : Layout) → Lawful l → (r : List ℕ) → Route l r → is_entries r ≡ true
route_entries l w r t =
    let g = path_begun l r t.0 in
    let short = begun_short l w r g in
    let few = w.few in
    and_true _ _ (le-leb 2 (length r) t.1.0)
    (and_true _ _ (le-leb (length r) 512 short)
    (ok_from r (λ i h.
    let b = begun_below l w r g i h in
    and_true _ _ (lt-ltb (get_or r i 0) 2048 (omega arith)) (lt-ltb (get_or r i 0 % 4) 3 (next_low l (take i r) (get_or r i 0) (g i h).0)))))
