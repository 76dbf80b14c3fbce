-- What the direction of a signal tells.
use Rattle.std.proofs.Common.{◌≡◌, ℕ, ◌+◌, ◌*◌, ◌/◌, ◌<◌, ◌≤◌, true, false, is_some, Some, None, Option, sym, subst, ⊎_elim, arith}
use Rattle.std.proofs.lemmas.Bool.{cases_lt}
use Rattle.plan.specs.declared.parts.Direction.{Direction}
use Rattle.plan.specs.declared.parts.Kind.{Kind}
use Rattle.plan.specs.Layout.{Layout}
use Rattle.route.specs.Paths.{IsSignal, Starts}
use Rattle.route.specs.Steps.{SignalAt}
use Rattle.search.specs.Found.{Least}

pub some_signal : (l : Layout) (c : ℕ) (o : Option Direction) → SignalAt l c o → is_some o ≡ true → IsSignal (l.kind c)
some_signal l c None told h = cc
some_signal l c (Some d) told h = let S : Kind → Type 0 = λ k. IsSignal k in subst S (sym told.1) tt

pub no_signal : (l : Layout) (c : ℕ) (o : Option Direction) → SignalAt l c o → is_some o ≡ false → c < l.count → IsSignal (l.kind c) → ⊥
no_signal l c None told h = told
no_signal l c (Some d) told h = cc

-- no signal from the component `c` on, which is the first whose entry is not below `from`
pub no_start : (l : Layout) (from c n : ℕ) → 4 * c < from + 4 → l.count ≤ n → ((k : ℕ) → c ≤ k → k < n → k < l.count → IsSignal (l.kind k) → ⊥) → (e : ℕ) → Starts l e → e < from
no_start l from c n least all none e s =
    ⊎_elim (λ h. h) (λ (h : from ≤ e). absurd (none (e / 4) (let m = s.0 in omega arith) (let m = s.1 in omega arith) s.1 s.2)) (cases_lt e from)

pub first_start : (l : Layout) (from c i : ℕ) → 4 * c < from + 4 → from ≤ 4 * c → (c ≤ i) × (i < l.count) × IsSignal (l.kind i) × ((k : ℕ) → c ≤ k → k < i → k < l.count → IsSignal (l.kind k) → ⊥) → Least (Starts l) from (Some (4 * i))
first_start l from c i least enough found =
    let q : 4 * i / 4 ≡ i = omega arith in
    let S : ℕ → Type 0 = λ k. (k < l.count) × IsSignal (l.kind k) in
    let low = found.0 in
    let started = subst S (sym q) (found.1, found.2) in (
      (omega arith, started.0, started.1),
      omega arith,
      λ e s h.
          ⊎_elim (λ (b : e / 4 < i). absurd (found.3 (e / 4) (let m = s.0 in omega arith) b s.1 s.2)) (λ (b : i ≤ e / 4). omega arith) (cases_lt (e / 4) i),
    )
