-- Where a row stops being a path.
use Rattle.std.proofs.Common.{◌≡◌, ℕ, ◌+◌, ◌<◌, ◌≤◌, true, List, [], ◌∷◌, ◌++◌, length, get_or, take, drop, sym, ap, ◌∙◌, subst, inl, inr, ⊎_elim, arith}
use Rattle.std.proofs.lemmas.List.{take_all, take_more, take-take, length-take-le, take-append-drop}
use Rattle.std.proofs.lemmas.Bool.{cases_lt}
use Rattle.plan.specs.Layout.{Layout}
use Rattle.row.specs.Row.{is_row, entries_of}
use Rattle.row.proofs.Rows.{row_parts, length_entries}
use Rattle.route.specs.Paths.{Path, Ends, Route}
use Rattle.route.specs.Growth.{May, Begun}
use Rattle.route.proofs.Growth.{grown_front, grown_at}
use Rattle.route.proofs.Places.{begun_path, path_begun}
use Rattle.judging.specs.Judged.{Walked, FailsAt}

module _ (l : Layout) (es : List ℕ) (k : ℕ) (w : Walked l es k) where
  -- the front of a path is one
  front : (j : ℕ) → 0 < j → j ≤ k → Path l (take j es)
  front j some h =
      let q = take k es in
      let B : List ℕ → Type 0 = λ x. Begun l x in
      let within = w.within in
      let g = grown_front (May l) (take j q) (drop j q) (subst B (sym (take-append-drop j q)) w.begun) in
      begun_path l (take j es) (omega (arith, length-take-le j es (omega arith))) (subst B (take-take j k es h) g)

  pub fails_early : k < length es → FailsAt l es k
  fails_early h =
      inl (
        h,
        front,
        λ p.
            let P : List ℕ → Type 0 = λ x. Path l x in
            let p' = subst P (take_more es k 0 h) p in
            w.stops h (grown_at (May l) (take k es) [] (get_or es k 0) (path_begun l (take k es ++ get_or es k 0 ∷ []) p')),
      )

  whole : length es ≤ k → Begun l es
  whole h = let B : List ℕ → Type 0 = λ x. Begun l x in subst B (take_all k es h) w.begun

  pub fails_late : length es ≤ k → 0 < length es → (Begun l es → Ends l es → ⊥) → FailsAt l es k
  fails_late h some ends = let within = w.within in inr (omega arith, begun_path l es some (whole h), ends (whole h))

  pub accepted : length es ≤ k → 0 < length es → (Begun l es → Ends l es) → Route l es
  accepted h some ends = (begun_path l es some (whole h), ends (whole h))

-- the front of a path is a path
path_front : (l : Layout) (es : List ℕ) → Path l es → (j : ℕ) → 0 < j → j ≤ length es → Path l (take j es)
path_front l es p j some h =
    let B : List ℕ → Type 0 = λ x. Begun l x in
    let g = grown_front (May l) (take j es) (drop j es) (subst B (sym (take-append-drop j es)) (path_begun l es p)) in
    begun_path l (take j es) (omega (arith, length-take-le j es h)) g

-- a route fails nowhere
pub no_failure : (l : Layout) (es : List ℕ) (k : ℕ) → FailsAt l es k → Route l es → ⊥
no_failure l es k f t =
    ⊎_elim
    (λ (a : (k < length es) × ((j : ℕ) → 0 < j → j ≤ k → Path l (take j es)) × (Path l (take (k + 1) es) → ⊥)).
    let h = a.0 in
    a.2 (path_front l es t.0 (k + 1) (omega arith) (omega arith)))
    (λ (b : (k ≡ length es) × Path l es × (Ends l es → ⊥)). b.2 t.1)
    f

-- up to the place of a failure the front is a path, and with the entry there it is none
fails_within : (l : Layout) (es : List ℕ) (k : ℕ) → FailsAt l es k → (k ≤ length es) × ((j : ℕ) → 0 < j → j ≤ k → Path l (take j es)) × (k < length es → Path l (take (k + 1) es) → ⊥)
fails_within l es k (inl a) = let h = a.0 in (omega arith, a.1, λ n. a.2)
fails_within l es k (inr b) =
    let e = b.0 in
    (omega arith, (λ j some h. path_front l es b.1 j some (omega arith)), λ n p. omega arith)

fails_later : (l : Layout) (es : List ℕ) (k m : ℕ) → FailsAt l es k → FailsAt l es m → k < m → ⊥
fails_later l es k m f g h =
    let a = fails_within l es k f in
    let b = fails_within l es m g in
    let within = b.0 in
    a.2 (omega arith) (b.1 (k + 1) (omega arith) (omega arith))

-- a row fails at one place only
pub fails_once : (l : Layout) (es : List ℕ) (k m : ℕ) → FailsAt l es k → FailsAt l es m → k ≡ m
fails_once l es k m f g =
    ⊎_elim
    (λ (h : k < m). absurd (fails_later l es k m f g h))
    (λ (h : m ≤ k).
    ⊎_elim (λ (n : m < k). absurd (fails_later l es m k g f n)) (λ (n : k ≤ m). omega arith) (cases_lt m k))
    (cases_lt k m)

-- a row is not empty
pub row_some : (s es : List ℕ) → is_row s ≡ true → es ≡ entries_of s → 0 < length es
row_some s es h e = let two = (row_parts s h).1 in omega (arith, ap length e ∙ length_entries s)
