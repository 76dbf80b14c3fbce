-- The sections of a layout.
use Rattle.std.proofs.Common.{◌≡◌, ℕ, ◌+◌, ◌<◌, Bool, true, false, MatchBool, length, get_or, Some, refl, subst, arith}
use Rattle.std.proofs.lemmas.List.FromFn.{length-range_with_len, get_or-range_with_len}
use Rattle.std.specs.List.{range_with_len, HoldsAt, AllWithin}
use Rattle.plan.specs.declared.parts.Kind.{Kind}
use Rattle.plan.specs.declared.parts.Kind.TheVariants.{Signal, Switch, Straight}
use Rattle.plan.specs.Layout.{Layout, Lawful, is_switch}
use Rattle.frame.specs.Sections.{section_by, Watches, IsSection}

by_kind : (k : Kind) (c s n : ℕ) → c < 512 → (is_switch k ≡ true → s < 512) → section_by k c s ≡ Some n → n < 1024
by_kind (Signal d) c s n low few h = cc
by_kind (Switch d) c s n low few h = let e : 512 + s ≡ n = cc in let f = few refl in omega arith
by_kind Straight c s n low few h = let e : c ≡ n = cc in omega arith

pub section_small : (l : Layout) → Lawful l → (n : ℕ) → IsSection l n → n < 1024
section_small l w n h =
    let few = w.few in
    let c = h.0 in
    let below = h.1.0 in
    by_kind (l.kind c) c (l.section c) n (omega arith) (w.sections c below) h.1.1

-- found among all components
pub watched : (l : Layout) (n : ℕ) (r : Bool)
    → MatchBool r ((k : ℕ) × (k < length (range_with_len 0 l.count)) × HoldsAt (Watches l n) (range_with_len 0 l.count) k) (AllWithin (λ c. Watches l n c → ⊥) (range_with_len 0 l.count) 0 (length (range_with_len 0 l.count)))
    → MatchBool r (IsSection l n) (IsSection l n → ⊥)
watched l n true h = (_, h.2 0)
watched l n false h = λ o.
    let below = o.1.0 in
    let long = length-range_with_len 0 l.count in
    let same : o.0 ≡ get_or (range_with_len 0 l.count) o.0 0 = omega (arith, get_or-range_with_len 0 l.count o.0 0 below) in
    h o.0 0 (omega arith) (omega arith) (subst (Watches l n) same o.1)
