-- A set gathers the components of a list, entry by entry.
use Rattle.std.proofs.Common.{◌≡◌, ℕ, ◌+◌, ◌/◌, ◌<◌, min, false, eqb, List, [], ◌∷◌, ◌++◌, length, get_or, take, sym, ap, ◌∙◌, ⊎_elim, arith}
use Rattle.std.proofs.lemmas.List.{take_more}
use Rattle.std.proofs.lemmas.Bool.{cases_eq}
use Rattle.sets.specs.declared.set.ComponentSet.{ComponentSet}
use Rattle.sets.specs.Members.{has, joined}
use Rattle.sets.proofs.Membership.{joined_here, joined_else, not_in}
use Rattle.route.specs.Components.{on}
use Rattle.route.specs.Growth.{New}
use Rattle.route.proofs.Counts.{times_none, times_push, one_here, one_else, none_new, some_old}

-- the set holds exactly the components of the list
abbrev pub Gathers : ComponentSet → List ℕ → Type 0
Gathers s q = (c : ℕ) → has s c ≡ on c q

pub gathers_none : (s : ComponentSet) → ((c : ℕ) → has s c ≡ 0) → Gathers s []
gathers_none s h c = h c ∙ sym (ap (λ n. min 1 n) (times_none c))

gathers_push : (s s' : ComponentSet) (q : List ℕ) (e : ℕ) → Gathers s q → e / 4 < 512 → ((c : ℕ) → has s' c ≡ joined s (e / 4) c) → Gathers s' (q ++ e ∷ [])
gathers_push s s' q e g low inserted c =
    let t = times_push c e q in
    let i = inserted c in
    let w = g c in
    ⊎_elim
    (λ (h : c ≡ e / 4). let j = joined_here s (e / 4) c low h in let o = one_here c e h in omega arith)
    (λ (h : c ≡ e / 4 → ⊥). let j = joined_else s (e / 4) c low h in let o = one_else c e h in omega arith)
    (cases_eq c (e / 4))

pub gathers_more : (s s' : ComponentSet) (es : List ℕ) (i : ℕ) → Gathers s (take i es) → i < length es → get_or es i 0 / 4 < 512 → ((c : ℕ) → has s' c ≡ joined s (get_or es i 0 / 4) c) → Gathers s' (take (i + 1) es)
gathers_more s s' es i g h low inserted c =
    gathers_push s s' (take i es) (get_or es i 0) g low inserted c ∙ sym (ap (on c) (take_more es i 0 h))

-- what is not in the set is new
pub gathers_new : (s : ComponentSet) (q : List ℕ) (e : ℕ) → Gathers s q → eqb (has s (e / 4)) 1 ≡ false → New q e
gathers_new s q e g h = let w = g (e / 4) in let z = not_in s (e / 4) h in none_new q e (omega arith)

pub gathers_old : (s : ComponentSet) (q : List ℕ) (e : ℕ) → Gathers s q → has s (e / 4) ≡ 1 → New q e → ⊥
gathers_old s q e g h = let w = g (e / 4) in some_old q e (omega arith)
