-- Which entries follow an entry.
use Rattle.std.proofs.Common.{◌≡◌, ℕ, ◌+◌, ◌*◌, ◌/◌, ◌%◌, ◌<◌, Bool, true, false, cond, ◌&&◌, eqb, ◌⊎◌, Some, None, Option, sym, refl, ◌∙◌, subst, inl, inr, ⊎_elim, arith}
use Rattle.std.proofs.lemmas.Bool.{cases_Bool, eq-eqb, ne_eqb}
use Rattle.plan.specs.declared.parts.Side.TheVariants.{Branch}
use Rattle.plan.specs.declared.parts.Direction.{Direction}
use Rattle.plan.specs.declared.parts.Port.{Port}
use Rattle.plan.specs.Layout.{Layout, Lawful}
use Rattle.plan.proofs.Ports.{far_below}
use Rattle.route.specs.Paths.{exit_of, facing, towards, Enters, Follows}

entered : (l : Layout) (o : Option Port) (e : ℕ) → Enters l o e → (p : Port) × (o ≡ Some p)
entered l None e h = absurd h
entered l (Some p) e h = (p, refl)

pub follows_to : (l : Layout) → Lawful l → (d : Direction) (e e' : ℕ) → Follows l d e e' → e' / 4 < l.count
follows_to l w d e e' h =
    let p = entered l (l.far (exit_of l d e)) e' h in
    let E : Option Port → Type 0 = λ o. Enters l o e' in
    let c : e' / 4 ≡ p.0.component = (subst E p.1 h).0 in
    let b = far_below l w (exit_of l d e) p.0 p.1 in
    omega arith

enters_one : (l : Layout) (o : Option Port) (e e' : ℕ) → Enters l o e → Enters l o e' → e / 4 ≡ e' / 4
enters_one l None e e' h h' = absurd h
enters_one l (Some p) e e' h h' = h.0 ∙ sym h'.0

pub follows_one : (l : Layout) (d : Direction) (x e e' : ℕ) → Follows l d x e → Follows l d x e' → e / 4 ≡ e' / 4
follows_one l d x e e' = enters_one l (l.far (exit_of l d x)) e e'

-- how a component lies matters only to whether it is left by its branch
pub follows_either : (l : Layout) (d : Direction) (e e' : ℕ) → Follows l d e e' → Follows l d (4 * (e / 4) + 1) e' ⊎ Follows l d (4 * (e / 4) + 2) e'
follows_either l d e e' h =
    let F : ℕ → Bool → Type 0 = λ c b. Enters l (l.far (record { component = c; side = cond (facing (l.kind c) d && b) Branch (towards d) })) e' in
    ⊎_elim
    (λ (z : eqb (e % 4) 2 ≡ true).
    let c : e / 4 ≡ (4 * (e / 4) + 2) / 4 = omega arith in
    let q : (4 * (e / 4) + 2) % 4 ≡ 2 = omega arith in
    inr (subst (λ (x : ℕ). F x (eqb ((4 * (e / 4) + 2) % 4) 2)) c (subst (F (e / 4)) (z ∙ sym (eq-eqb _ 2 q)) h)))
    (λ (z : eqb (e % 4) 2 ≡ false).
    let c : e / 4 ≡ (4 * (e / 4) + 1) / 4 = omega arith in
    let q : (4 * (e / 4) + 1) % 4 ≡ 2 → ⊥ = omega arith in
    inl (subst (λ (x : ℕ). F x (eqb ((4 * (e / 4) + 1) % 4) 2)) c (subst (F (e / 4)) (z ∙ sym (ne_eqb _ 2 q)) h)))
    (cases_Bool (eqb (e % 4) 2))
