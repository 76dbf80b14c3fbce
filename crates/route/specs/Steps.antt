-- What the steps of a path answer.
use Rattle.std.specs.Prelude.{◌≡◌, ℕ, ◌<◌, ◌≤◌, Some, None, Option}
use Rattle.plan.specs.declared.parts.Direction.{Direction}
use Rattle.plan.specs.declared.parts.Kind.TheVariants.{Signal}
use Rattle.plan.specs.Layout.{Layout}
use Rattle.route.specs.declared.steps.Range.{Range}
use Rattle.route.specs.Paths.{IsSignal}

-- exactly the numbers of the range satisfy P, and there are some
pub record Exactly (P : ℕ → Type 0) (r : Range) : Type 0 where
  pub some : r.low ≤ r.high
  pub inside : (e : ℕ) → r.low ≤ e → e ≤ r.high → P e
  pub outside : (e : ℕ) → P e → (r.low ≤ e) × (e ≤ r.high)

-- which numbers satisfy P: those of a range, or none
abbrev pub Told : (ℕ → Type 0) → Option Range → Type 0
Told P None = (e : ℕ) → P e → ⊥
Told P (Some r) = Exactly P r

-- the direction of a signal of the layout, or that there is no such signal
abbrev pub SignalAt : Layout → ℕ → Option Direction → Type 0
SignalAt l c None = c < l.count → IsSignal (l.kind c) → ⊥
SignalAt l c (Some d) = (c < l.count) × (l.kind c ≡ Signal d)
