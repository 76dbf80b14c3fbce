-- What an answer of a plan says of its layout.
use Rattle.std.proofs.Common.{◌≡◌, ℕ, ◌≤◌, Bool, true, false, ltb, Ok, Err, Result, refl}
use Rattle.std.proofs.lemmas.Bool.{ltb-false}
use Rattle.fault.specs.declared.kinds.PlanFault.{PlanFault}
use Rattle.fault.specs.declared.kinds.PlanFault.TheVariants.{NoSuchPart}
use Rattle.plan.specs.Layout.{Layout, told, told_kind}

given : {T : Type 0} (exists : Bool) (x y : T) → ◌≡◌ {A = Result T PlanFault} (Ok y) (told exists x) → (exists ≡ true) × (y ≡ x)
given true x y h = (refl, cc)
given false x y h = (cc, cc)

refused : {T : Type 0} (exists : Bool) (x : T) (e : PlanFault) → ◌≡◌ {A = Result T PlanFault} (Err e) (told exists x) → (exists ≡ false) × (e ≡ NoSuchPart 0)
refused true x e h = (cc, cc)
refused false x e h = (refl, cc)

pub kind_refused : (l : Layout) (c : ℕ) (e : PlanFault) → Err e ≡ told_kind l c → l.count ≤ c
kind_refused l c e h = ltb-false c l.count (refused (ltb c l.count) (l.kind c) e h).0
