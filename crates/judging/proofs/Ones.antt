-- A row has one judgement.
use Rattle.std.proofs.Common.{◌≡◌, ℕ, true, false, ◌⊎◌, List, Ok, Err, sym, refl, ap, ◌∙◌, inl, inr, ⊎_elim, arith}
use Rattle.fault.specs.declared.kinds.BoxFault.{BoxFault}
use Rattle.fault.specs.declared.kinds.BoxFault.TheVariants.{Plan, NoSuchSection, ShortSpace, Drained, RowsSpent, NotARow, NoRoute, Conflict, OtherPosition, Occupied, FrameFull, SlipsSpent, UnknownSlip}
use Rattle.plan.specs.Layout.{Layout}
use Rattle.row.specs.Row.{is_row, entries_of}
use Rattle.judging.specs.Judged.{FailsAt, Judged}
use Rattle.judging.proofs.Places.{no_failure, fails_once}

module _ (l : Layout) (s : List ℕ) where
  abbrev Shapeless : BoxFault → Type 0
  Shapeless f = (f ≡ NotARow) × (is_row s ≡ false)

  abbrev Failing : BoxFault → Type 0
  Failing f = (k : ℕ) × (f ≡ NoRoute k) × (is_row s ≡ true) × FailsAt l (entries_of s) k

  refused_so : (f : BoxFault) → Judged l s (Err f) → Shapeless f ⊎ Failing f
  refused_so NotARow j = inl (refl, j)
  refused_so (NoRoute k) j = inr (k, refl, j.0, j.1)
  refused_so (Plan e) j = absurd j
  refused_so NoSuchSection j = absurd j
  refused_so ShortSpace j = absurd j
  refused_so Drained j = absurd j
  refused_so RowsSpent j = absurd j
  refused_so Conflict j = absurd j
  refused_so OtherPosition j = absurd j
  refused_so Occupied j = absurd j
  refused_so FrameFull j = absurd j
  refused_so SlipsSpent j = absurd j
  refused_so UnknownSlip j = absurd j

  not_both : is_row s ≡ true → is_row s ≡ false → ⊥
  not_both h k = let z : ◌≡◌ {A = ℕ} 0 1 = cc in omega arith

  same : (f g : BoxFault) → Shapeless f ⊎ Failing f → Shapeless g ⊎ Failing g → f ≡ g
  same f g (inl a) (inl b) = a.0 ∙ sym b.0
  same f g (inl a) (inr b) = absurd (not_both b.2 a.1)
  same f g (inr a) (inl b) = absurd (not_both a.2 b.1)
  same f g (inr a) (inr b) = a.1 ∙ ap NoRoute (fails_once l (entries_of s) a.0 b.0 a.3 b.3) ∙ sym b.1

  -- no row is refused in two ways
  pub refused_once : (f g : BoxFault) → Judged l s (Err f) → Judged l s (Err g) → f ≡ g
  refused_once f g a b = same f g (refused_so f a) (refused_so g b)

  -- and none both accepted and refused
  pub accepted_or_refused : (f : BoxFault) → Judged l s (Ok tt) → Judged l s (Err f) → ⊥
  accepted_or_refused f a b =
      ⊎_elim
      (λ (x : Shapeless f). not_both a.0 x.1)
      (λ (y : Failing f). no_failure l (entries_of s) y.0 y.3 a.1)
      (refused_so f b)
