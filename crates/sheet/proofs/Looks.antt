-- The look over a sheet has one answer.
use Rattle.std.proofs.Common.{◌≡◌, ℕ, ◌<◌, ◌≤◌, Bool, true, false, not, Some, None, Ok, Err, Option, MatchOption, refl, ap, ⊎_elim, arith}
use Rattle.std.proofs.lemmas.Bool.{both_ways, cases_order}
use Rattle.fault.specs.declared.kinds.PlanFault.{PlanFault}
use Rattle.fault.specs.declared.kinds.PlanFault.TheVariants.{BlankPort, WrongSwitchCount}
use Rattle.plan.specs.Layout.{Layout}
use Rattle.sheet.specs.Look.{Whole, FirstBlank, FirstEmpty, HasSwitch, NoSwitch, SwitchTold, FirstBad, Looked, OneLook}

never_both : (l : Layout) (s : ℕ) → NoSwitch l s → HasSwitch l s → ⊥
never_both l s n h = both_ways _ (n h.0 h.1.0) h.1.1

-- a place that all before it pass, and that fails itself, is one
first_one : (c d : ℕ) → (c < d → ⊥) → (d < c → ⊥) → c ≡ d
first_one c d p q = ⊎_elim (λ e. e) (⊎_elim (λ h. absurd (p h)) (λ h. absurd (q h))) (cases_order c d)

-- what `find` says over a range from 0 on
pub first_bad : (n : ℕ) (Good Bad : ℕ → Type 0) (r : Option ℕ) →
    MatchOption r ((k : ℕ) → 0 ≤ k → k < n → Good k) (λ i. (0 ≤ i) × (i < n) × Bad i × ((k : ℕ) → 0 ≤ k → k < i → Good k)) →
    FirstBad n Good Bad r
first_bad n Good Bad None h = λ k l. h k (omega arith) l
first_bad n Good Bad (Some i) h = (h.1, h.2, λ k l. h.3 k (omega arith) l)

-- a point section that is told to have a switch, or none
pub has_switch : (l : Layout) (s : ℕ) (b : Bool) → SwitchTold l s b → not b ≡ false → HasSwitch l s
has_switch l s true h e = h
has_switch l s false h e = cc

pub no_switch : (l : Layout) (s : ℕ) (b : Bool) → SwitchTold l s b → not b ≡ true → NoSwitch l s
no_switch l s true h e = cc
no_switch l s false h e = h

-- a refusal says that the sheet is not whole
pub not_whole : (l : Layout) (s : ℕ) (f : PlanFault) → Looked l s (Err f) → Whole l s → ⊥
not_whole l s (BlankPort c) k w = both_ways _ k.blank (w.switches c k.stands)
not_whole l s (WrongSwitchCount t) k w = never_both l t k.empty (w.sections t k.stands)
not_whole l s _ k w = k

one_blank : (l : Layout) (s c : ℕ) (f : PlanFault) → FirstBlank l c → Looked l s (Err f) → BlankPort c ≡ f
one_blank l s c (BlankPort d) f k =
    ap BlankPort (first_one c d (λ h. both_ways _ f.blank (k.before c h)) (λ h. both_ways _ k.blank (f.before d h)))
one_blank l s c (WrongSwitchCount t) f k = absurd (both_ways _ f.blank (k.switches c f.stands))
one_blank l s c _ f k = absurd k

one_empty : (l : Layout) (s t : ℕ) (f : PlanFault) → FirstEmpty l s t → Looked l s (Err f) → WrongSwitchCount t ≡ f
one_empty l s t (BlankPort c) f k = absurd (both_ways _ k.blank (f.switches c k.stands))
one_empty l s t (WrongSwitchCount u) f k =
    ap WrongSwitchCount (first_one t u (λ h. never_both l t f.empty (k.before t h)) (λ h. never_both l u k.empty (f.before u h)))
one_empty l s t _ f k = absurd k

one_fault : (l : Layout) (s : ℕ) (e f : PlanFault) → Looked l s (Err e) → Looked l s (Err f) → e ≡ f
one_fault l s (BlankPort c) f k h = one_blank l s c f k h
one_fault l s (WrongSwitchCount t) f k h = one_empty l s t f k h
one_fault l s _ f k h = absurd k

pub one_look : OneLook
one_look l s (Ok u) (Ok v) k h = refl
one_look l s (Ok u) (Err f) k h = absurd (not_whole l s f h k)
one_look l s (Err e) (Ok v) k h = absurd (not_whole l s e k h)
one_look l s (Err e) (Err f) k h = ap Err (one_fault l s e f k h)
