-- The records of an accepted file lie within it.
use Rattle.std.proofs.Common.{◌≡◌, ℕ, ◌+◌, ◌<◌, ◌≤◌, true, List, length, ap, arith}
use Rattle.plan.specs.declared.parts.Kind.{Kind}
use Rattle.plan.specs.declared.parts.Kind.TheVariants.{Signal, Switch, Straight}
use Rattle.file.specs.Contents.{components, place, kind_of}
use Rattle.file.specs.FileOf.{accepts}
use Rattle.file.proofs.Whole.{Whole}
use Rattle.file.proofs.Places.{signal_place, switch_place, straight_place, signal_kind, switch_kind, straight_kind}
use Rattle.file.proofs.Full.{by_section}
use Rattle.file.proofs.Accepted.{accepted_whole}

abbrev pub size : Kind → ℕ
size (Signal d) = 5
size (Switch d) = 9
size Straight = 4

whole_fits : (s : List ℕ) → Whole s → (c : ℕ) → c < components s → place s c + size (kind_of s c) ≤ length s
whole_fits s w = let n = w.long in by_section s (λ c. place s c + size (kind_of s c) ≤ length s)
    (λ i h. let p = signal_place s i h in let k : size (kind_of s i) ≡ 5 = ap size (signal_kind s i h) in omega arith)
    (λ i h. let p = switch_place s i h in let k = ap size (switch_kind s i h) in omega arith)
    (λ i h. let p = straight_place s i in let k = ap size (straight_kind s i) in omega arith)

pub fits : (s : List ℕ) → accepts s ≡ true → (c : ℕ) → c < components s → (k : Kind) → k ≡ kind_of s c → place s c + size k ≤ length s
fits s h c l k e = let f = whole_fits s (accepted_whole s h) c l in let n = ap size e in omega arith
