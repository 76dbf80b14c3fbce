-- A port and its code.
use Rattle.std.proofs.Common.{◌≡◌, ℕ, ◌+◌, ◌*◌, ◌/◌, ◌%◌, Bool, true, false, eqb, Some, None, Option, sym, refl, ap, ◌∙◌, arith}
use Rattle.std.proofs.lemmas.Bool.{eqb-true, eq-eqb, ne_eqb, cond-true, cond-false}
use Rattle.plan.specs.declared.parts.Side.{Side}
use Rattle.plan.specs.declared.parts.Side.TheVariants.{West, East, Branch}
use Rattle.plan.specs.declared.parts.Port.{Port}
use Rattle.plan.specs.Layout.{port}
use Rattle.file.specs.Contents.{side_number, port_code, port_of}
use Rattle.file.specs.FileOf.{far_code}

-- the port with a code is the one that has it
code_side : (c : ℕ) (d : Side) → port_of (4 * c + side_number d) ≡ Some (port c d)
code_side c West =
    let q : (4 * c + 0) / 4 ≡ c = omega arith in
    let r : (4 * c + 0) % 4 ≡ 0 = omega arith in
    cond-true _ _ _ (eq-eqb _ _ r) ∙ ap (λ n. Some (port n West)) q
code_side c East =
    let q : (4 * c + 1) / 4 ≡ c = omega arith in
    let r : (4 * c + 1) % 4 ≡ 1 = omega arith in
    cond-false _ _ _ (ne_eqb ((4 * c + 1) % 4) 0 (λ z. omega arith)) ∙ cond-true _ _ _ (eq-eqb _ _ r) ∙ ap (λ n. Some (port n East)) q
code_side c Branch =
    let q : (4 * c + 2) / 4 ≡ c = omega arith in
    let r : (4 * c + 2) % 4 ≡ 2 = omega arith in
    cond-false _ _ _ (ne_eqb ((4 * c + 2) % 4) 0 (λ z. omega arith)) ∙ cond-false _ _ _ (ne_eqb ((4 * c + 2) % 4) 1 (λ z. omega arith)) ∙ cond-true _ _ _ (eq-eqb _ _ r) ∙ ap (λ n. Some (port n Branch)) q

pub of_code : (p : Port) → port_of (port_code p) ≡ Some p
of_code p = code_side p.component p.side

pub of_far : (o : Option Port) → port_of (far_code o) ≡ o
of_far None = refl
of_far (Some q) = of_code q

-- a port's code is not that of a blank
pub not_blank : (p : Port) → port_code p ≡ 65535 → ⊥
not_blank p h = elim p.side as (λ d. 4 * p.component + side_number d ≡ 65535 → ⊥) [ West ↦ λ e. omega arith | East ↦ λ e. omega arith | Branch ↦ λ e. omega arith ] h

some_code : (n : ℕ) (p : Port) → port_of n ≡ Some p → (b0 b1 b2 : Bool) → eqb (n % 4) 0 ≡ b0 → eqb (n % 4) 1 ≡ b1 → eqb (n % 4) 2 ≡ b2 → n ≡ port_code p
some_code n p h true b1 b2 e f g =
    let r = eqb-true (n % 4) 0 e in
    let z : Some (port (n / 4) West) ≡ Some p = sym (cond-true _ _ _ e) ∙ h in
    let y : port (n / 4) West ≡ p = cc in
    let x : 4 * (n / 4) + 0 ≡ n = omega arith in
    sym x ∙ ap port_code y
some_code n p h false true b2 e f g =
    let r = eqb-true (n % 4) 1 f in
    let z : Some (port (n / 4) East) ≡ Some p = sym (cond-false _ _ _ e ∙ cond-true _ _ _ f) ∙ h in
    let y : port (n / 4) East ≡ p = cc in
    let x : 4 * (n / 4) + 1 ≡ n = omega arith in
    sym x ∙ ap port_code y
some_code n p h false false true e f g =
    let r = eqb-true (n % 4) 2 g in
    let z : Some (port (n / 4) Branch) ≡ Some p = sym (cond-false _ _ _ e ∙ cond-false _ _ _ f ∙ cond-true _ _ _ g) ∙ h in
    let y : port (n / 4) Branch ≡ p = cc in
    let x : 4 * (n / 4) + 2 ≡ n = omega arith in
    sym x ∙ ap port_code y
some_code n p h false false false e f g =
    let z : ◌≡◌ {A = Option Port} None (Some p) = sym (cond-false _ _ _ e ∙ cond-false _ _ _ f ∙ cond-false _ _ _ g) ∙ h in
    cc

pub code_of : (n : ℕ) (p : Port) → port_of n ≡ Some p → n ≡ port_code p
code_of n p h = some_code n p h (eqb (n % 4) 0) (eqb (n % 4) 1) (eqb (n % 4) 2) refl refl refl
