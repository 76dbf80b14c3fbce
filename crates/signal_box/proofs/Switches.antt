-- The entries of switches on a route.
use Rattle.std.proofs.Common.{◌≡◌, ℕ, ◌+◌, ◌-◌, ◌/◌, ◌%◌, ◌<◌, Bool, true, false, cond, ◌⊎◌, List, length, get_or, Some, None, Option, sym, ap, ◌∙◌, subst, inl, inr, ⊎_elim, arith}
use Rattle.std.proofs.lemmas.Bool.{cases_eq}
use Rattle.plan.specs.declared.parts.Kind.{Kind}
use Rattle.plan.specs.declared.parts.Kind.TheVariants.{Signal, Switch, Straight}
use Rattle.plan.specs.declared.parts.Position.{Position}
use Rattle.plan.specs.declared.parts.Position.TheVariants.{Normal, Reverse}
use Rattle.plan.specs.declared.parts.Port.{Port}
use Rattle.plan.specs.declared.parts.Side.{Side}
use Rattle.plan.specs.declared.parts.Side.TheVariants.{West, East, Branch}
use Rattle.plan.specs.Layout.{Layout, is_switch, same_side}
use Rattle.route.specs.Paths.{IsSignal, MayLie, Enters, Follows, root, trailing, heading, exit_of, Path}
use Rattle.frame.specs.Calls.{Against}
use Rattle.signal_box.specs.Safety.{LiesAs}

-- a lie of a switch: 1 or 2
abbrev pub Lie : ℕ → Type 0
Lie z = (z ≡ 1) ⊎ (z ≡ 2)

signal_no_switch : (k : Kind) → IsSignal k → is_switch k ≡ true → ⊥
signal_no_switch (Signal s) i h = cc
signal_no_switch (Switch b) i h = absurd i
signal_no_switch Straight i h = absurd i

trailing_lie : (p : Side) (z : ℕ) → z ≡ trailing p → Lie z
trailing_lie West z h = inl h
trailing_lie East z h = inl h
trailing_lie Branch z h = inr h

switch_lie : (at_root : Bool) (p : Side) (z : ℕ) → cond at_root (Lie z) (z ≡ trailing p) → Lie z
switch_lie true p z h = h
switch_lie false p z h = trailing_lie p z h

may_lie : (k : Kind) (p : Side) (z : ℕ) → is_switch k ≡ true → MayLie k p z → Lie z
may_lie (Signal s) p z h m = cc
may_lie (Switch b) p z h m = switch_lie (same_side p (root b)) p z m
may_lie Straight p z h m = cc

entered : (l : Layout) (o : Option Port) (e : ℕ) → Enters l o e → is_switch (l.kind (e / 4)) ≡ true → Lie (e % 4)
entered l None e h s = absurd h
entered l (Some p) e h s = may_lie (l.kind p.component) p.side (e % 4) (ap (λ c. is_switch (l.kind c)) (sym h.0) ∙ s) h.1

pub switch_entry : (l : Layout) (es : List ℕ) → Path l es → (i : ℕ) → i < length es → is_switch (l.kind (get_or es i 0 / 4)) ≡ true → Lie (get_or es i 0 % 4)
switch_entry l es p i h s =
    ⊎_elim
    (λ (e : i ≡ 0).
    let S : ℕ → Type 0 = λ n. is_switch (l.kind (get_or es n 0 / 4)) ≡ true in
    absurd (signal_no_switch (l.kind (get_or es 0 0 / 4)) p.starts.2 (subst S e s)))
    (λ (n : i ≡ 0 → ⊥).
    let back : i - 1 + 1 ≡ i = omega arith in
    let F : ℕ → Type 0 = λ m. Follows l (heading l es) (get_or es (i - 1) 0) (get_or es m 0) in
    entered l (l.far (exit_of l (heading l es) (get_or es (i - 1) 0))) (get_or es i 0) (subst F back (p.follows (i - 1) (omega arith))) s)
    (cases_eq i 0)

-- a switch that does not lie otherwise than its entry lies as its entry
pub lies_as : (p : Position) (z : ℕ) → Lie z → (Against p z → ⊥) → LiesAs p z
lies_as Normal z (inl h) n = h
lies_as Normal z (inr h) n = absurd (n h)
lies_as Reverse z (inl h) n = absurd (n h)
lies_as Reverse z (inr h) n = h
