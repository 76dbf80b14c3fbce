-- Which files are accepted, and what they mean.
use Rattle.std.proofs.Common.{◌≡◌, ℕ, ◌+◌, ◌*◌, true, List, is_ok as isOk, Ok, Err, Result, sym, refl, ap, ◌∙◌, subst}
use Rattle.fault.specs.declared.kinds.FileFault.{FileFault}
use Rattle.fault.specs.declared.kinds.PlanFault.{PlanFault}
use Rattle.numbers.specs.Stored.{number}
use Rattle.plan.specs.Layout.{Layout, Lawful}
use Rattle.file.specs.Checks.{first_failing, then}
use Rattle.file.specs.Contents.{signal_count, switch_count, straight_count, section_count, layout_of}
use Rattle.file.specs.Readings.{first_reading, second_reading, carried, look}
use Rattle.file.specs.FileOf.{Counts, FileWith, GoodFileOf, accepts, AcceptedExactly, Means}
use Rattle.file.proofs.Whole.{Whole, read_whole, whole_read}
use Rattle.file.proofs.Fields.{Fields, read_fields, fields_read}
use Rattle.file.proofs.Sound.{counts_of, both_stored, good}
use Rattle.file.proofs.Full.{fields, whole}

both : (a : Result (Unit {0}) FileFault) (b : Result (Unit {0}) PlanFault) → then (carried a) b ≡ Ok tt → (a ≡ Ok tt) × (b ≡ Ok tt)
both (Ok tt) b h = (refl, h)
both (Err e) b h = (cc, cc)

look_passed : (s : List ℕ) → look s ≡ Ok tt → Whole s × Fields s
unfolding look
look_passed s h =
    let p = both (first_failing (first_reading s)) (first_failing (second_reading s)) h in
    (read_whole s p.0, read_fields s p.1)

passed_look : (s : List ℕ) → Whole s → Fields s → look s ≡ Ok tt
unfolding look
passed_look s w f = ap (λ r. then (carried r) (first_failing (second_reading s))) (whole_read s w) ∙ fields_read s f

-- the counts of a file are those that it stores
same_counts : (s : List ℕ) (l : Layout) (n : Counts) → FileWith s l n → n ≡ counts_of s
unfolding signal_count switch_count straight_count section_count
same_counts s l n f =
    let a : n.signals ≡ signal_count s = sym f.signal_count in
    let b : n.switches ≡ switch_count s = sym f.switch_count ∙ ap (λ x. number s (2 + 5 * x)) a in
    let c : n.straights ≡ straight_count s = sym f.straight_count ∙ ap (λ x. number s (2 + 5 * x + 2 + 9 * n.switches)) a ∙ ap (λ x. number s (2 + 5 * signal_count s + 2 + 9 * x)) b in
    let d : n.sections ≡ section_count s = sym f.section_count ∙ ap (λ x. number s (2 + 5 * x + 2 + 9 * n.switches + 2 + 4 * n.straights)) a ∙ ap (λ x. number s (2 + 5 * signal_count s + 2 + 9 * x + 2 + 4 * n.straights)) b ∙ ap (λ x. number s (2 + 5 * signal_count s + 2 + 9 * switch_count s + 2 + 4 * x)) c in
    λ i. record { signals = a i; switches = b i; straights = c i; sections = d i }

pub good_look : (s : List ℕ) → look s ≡ Ok tt → GoodFileOf s (layout_of s)
good_look s h = let p = look_passed s h in good s p.0 p.1

pub look_good : (s : List ℕ) (l : Layout) → GoodFileOf s l → look s ≡ Ok tt
look_good s l (w, (n, f), c) =
    let F : Counts → Type 0 = λ m. FileWith s l m in
    let g = subst F (same_counts s l n f) f in
    passed_look s (whole s l w g c) (fields s l w g c)

pub accepted_exactly : (s : List ℕ) (r : Result (Unit {0}) PlanFault) → r ≡ look s → AcceptedExactly s r
accepted_exactly s r e = (λ h. (layout_of s, good_look s (sym e ∙ h)), λ g. e ∙ look_good s g.0 g.1)

pub means : (s : List ℕ) (r : Result (Unit {0}) PlanFault) → r ≡ look s → Means s r
means s r e = (
  λ h. good_look s (sym e ∙ h),
  λ h. let p = look_passed s (sym e ∙ h) in both_stored s p.0 p.1,
)

is_ok : (r : Result (Unit {0}) PlanFault) → isOk r ≡ true → r ≡ Ok tt
is_ok (Ok tt) h = refl
is_ok (Err e) h = cc

-- an accepted file is a good file of what it says, and its layout is lawful
pub accepted_good : (s : List ℕ) → accepts s ≡ true → GoodFileOf s (layout_of s)
accepted_good s h = good_look s (is_ok (look s) h)

pub accepted_whole : (s : List ℕ) → accepts s ≡ true → Whole s
accepted_whole s h = (look_passed s (is_ok (look s) h)).0

pub accepted_lawful : (s : List ℕ) → accepts s ≡ true → Lawful (layout_of s)
accepted_lawful s h = (accepted_good s h).0
