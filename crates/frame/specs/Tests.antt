-- A call makes its tests in a fixed order, and the first whose condition holds refuses it.
use Rattle.std.specs.Prelude.{◌≡◌, ℕ, ◌⊎◌, List, Some, None, Ok, Err, Option, Result}
use Rattle.fault.specs.declared.kinds.BoxFault.{BoxFault}
use Rattle.plan.specs.Layout.{Layout}
use Rattle.judging.specs.Judged.{Judged}

-- how a call was refused, or that it was accepted
abbrev pub refusal : {T : Type 0} → Result T BoxFault → Option BoxFault
refusal (Ok x) = None
refusal (Err f) = Some f

-- the same of a call that hands back what it was brought
abbrev pub kept_refusal : {T X : Type 0} → Result T (BoxFault × X) → Option BoxFault
kept_refusal (Ok x) = None
kept_refusal (Err y) = Some y.0

-- no test is left, so the call is accepted
abbrev pub Passes : Option BoxFault → Type 0
Passes None = Unit {0}
Passes (Some f) = ⊥

-- refused with `x` where the condition holds, else as the tests after it say
abbrev pub Test : BoxFault → Type 0 → (Option BoxFault → Type 0) → Option BoxFault → Type 0
Test x C next None = (C → ⊥) × next None
Test x C next (Some f) = (C × (f ≡ x)) ⊎ ((C → ⊥) × next (Some f))

-- refused as a judgement of the row says, else as the tests after it say
abbrev pub Judging : Layout → List ℕ → (Option BoxFault → Type 0) → Option BoxFault → Type 0
Judging l s next None = Judged l s (Ok tt) × next None
Judging l s next (Some f) = Judged l s (Err f) ⊎ (Judged l s (Ok tt) × next (Some f))
