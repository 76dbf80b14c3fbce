-- Tests on ports, and what they say.
use Rattle.std.proofs.Common.{◌≡◌, ◌<◌, Bool, true, false, ◌&&◌, eqb, ltb, Some, None, Option, refl, ap, ◌∙◌}
use Rattle.std.proofs.lemmas.Bool.{ltb-true, eqb-true, eq-eqb}
use Rattle.plan.specs.declared.parts.Side.{Side}
use Rattle.plan.specs.declared.parts.Side.TheVariants.{West, East, Branch}
use Rattle.plan.specs.declared.parts.Port.{Port}
use Rattle.std.specs.Option.{option_eq}
use Rattle.plan.specs.contracts.parts.SidePartialEq.TheImpl as side
use Rattle.plan.specs.contracts.parts.PortPartialEq.TheImpl as port
use Rattle.plan.specs.Layout.{Layout, Lawful, is_port, same_side, same_port, leads_to}

pub both : (a b : Bool) → (a && b) ≡ true → (a ≡ true) × (b ≡ true)
both true b h = (refl, h)
both false b h = (h, cc)

pub and : (a b : Bool) → a ≡ true → b ≡ true → (a && b) ≡ true
and a b p q = cc

sides_same : (a b : Side) → same_side a b ≡ true → a ≡ b
sides_same West West h = refl
sides_same West East h = cc
sides_same West Branch h = cc
sides_same East West h = cc
sides_same East East h = refl
sides_same East Branch h = cc
sides_same Branch West h = cc
sides_same Branch East h = cc
sides_same Branch Branch h = refl

side_self : (a : Side) → same_side a a ≡ true
side_self West = refl
side_self East = refl
side_self Branch = refl

pub port_eq : (p q : Port) → p.component ≡ q.component → p.side ≡ q.side → p ≡ q
port_eq p q c s = λ i. record { component = c i; side = s i }

pub ports_same : (p q : Port) → same_port p q ≡ true → p ≡ q
ports_same p q h =
    let s = both (eqb p.component q.component) (same_side p.side q.side) h in
    port_eq p q (eqb-true p.component q.component s.0) (sides_same p.side q.side s.1)

pub port_self : (p : Port) → same_port p p ≡ true
port_self p = and _ _ (eq-eqb p.component p.component refl) (side_self p.side)

pub leads : (o : Option Port) (p : Port) → leads_to o p ≡ true → o ≡ Some p
leads None p h = cc
leads (Some q) p h = ap Some (ports_same q p h)

pub led : (o : Option Port) (p : Port) → o ≡ Some p → leads_to o p ≡ true
led o p e = ap (λ x. leads_to x p) e ∙ port_self p

pub port_below : (l : Layout) (p : Port) → is_port l p ≡ true → p.component < l.count
port_below l p h = ltb-true p.component l.count (both (ltb p.component l.count) _ h).0

-- the far port of a port is a port
pub far_port : (l : Layout) → Lawful l → (p q : Port) → l.far p ≡ Some q → is_port l q ≡ true
far_port l w p q h = w.ports q p (w.both_ways p q h)

pub far_below : (l : Layout) → Lawful l → (p q : Port) → l.far p ≡ Some q → q.component < l.count
far_below l w p q h = port_below l q (far_port l w p q h)

-- what `==` answers of two ports
sides_equal : (a b : Side) → side.ghosts.eq a b ≡ same_side a b
sides_equal West West = refl
sides_equal West East = refl
sides_equal West Branch = refl
sides_equal East West = refl
sides_equal East East = refl
sides_equal East Branch = refl
sides_equal Branch West = refl
sides_equal Branch East = refl
sides_equal Branch Branch = refl

pub ports_equal : (p q : Port) → port.ghosts.eq p q ≡ same_port p q
ports_equal p q = ap (λ s. eqb p.component q.component && s) (sides_equal p.side q.side)

pub far_equal : (o : Option Port) (p : Port) → option_eq port.ghosts.eq o (Some p) ≡ leads_to o p
far_equal None p = refl
far_equal (Some q) p = ports_equal q p
