-- A blank matches nothing.
use Rattle.std.proofs.Common.{◌≡◌, ℕ, Bool, true, false, ◌&&◌, Some, None, Ok, Option, Result, ap, ◌∙◌, arith}
use Rattle.fault.specs.declared.kinds.PlanFault.{PlanFault}
use Rattle.plan.specs.declared.parts.Port.{Port}
use Rattle.plan.specs.Layout.{told, is_port, leads_to, told_connected}
use Rattle.plan.specs.Blanks.{BlanksMatchNothing}
use Rattle.plan.proofs.Ports.{leads, led, and, far_port}

told_true : (exists x : Bool) → told exists x ≡ Ok true → x ≡ true
told_true true x h = cc
told_true false x h = cc

told_so : (exists x : Bool) → exists ≡ true → x ≡ true → told exists x ≡ Ok true
told_so exists x p q = cc

no_lead : (o : Option Port) (p : Port) → o ≡ None → o ≡ Some p → ⊥
no_lead o p h k = let z : ◌≡◌ {A = ℕ} 0 1 = cc in omega arith

pub blanks_match_nothing : BlanksMatchNothing
blanks_match_nothing l w a b =
    let names : told_connected l a b ≡ Ok true → l.far a ≡ Some b =
    λ h. leads (l.far a) b (told_true (is_port l a && is_port l b) (leads_to (l.far a) b) h) in (
      (λ h. (names h, w.both_ways a b (names h))),
      (λ h. told_so (is_port l a && is_port l b) (leads_to (l.far a) b) (and (is_port l a) (is_port l b) (w.ports a b h) (far_port l w a b h)) (led (l.far a) b h)),
      (λ h k. no_lead (l.far a) b h (names k)),
    )

-- what two ports tell of their connection, of whatever form the answer is
pub connected_is : (a b : Bool) (f g o h : Option Port) (p : Port) (r : Bool) → ◌≡◌ {A = Result (Option Port) PlanFault} (Ok f) (told a g) → ◌≡◌ {A = Result (Option Port) PlanFault} (Ok o) (told b h) → r ≡ leads_to f p → ◌≡◌ {A = Result Bool PlanFault} (Ok r) (told (a && b) (leads_to g p))
connected_is true true f g o h p r d e k = let z : f ≡ g = cc in ap Ok k ∙ ap (λ x. Ok (leads_to x p)) z
connected_is true false f g o h p r d e k = cc
connected_is false b f g o h p r d e k = cc
