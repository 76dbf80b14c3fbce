-- Tests that compute what a journal demands of an opening and of a throw.
use Rattle.std.proofs.Common.{◌≡◌, ℕ, zero, suc, ◌/◌, ◌%◌, ◌<◌, Bool, true, false, cond, ◌&&◌, ◌||◌, eqb, ltb, ◌⊎◌, List, [], ◌∷◌, length, get_or, Some, None, Ok, Decides, Option, sym, refl, ap, ◌∙◌, inl, inr, ⊎_elim, suc-le-suc, arith}
use Rattle.std.proofs.lemmas.Bool.{false≢true}
use Rattle.std.proofs.lemmas.Bool.Decides.{Decides-eqb, Decides-ltb, Decides-and, Decides-or, not_from_Decides}
use Rattle.fault.specs.declared.kinds.BoxFault.{BoxFault}
use Rattle.fault.specs.declared.kinds.BoxFault.TheVariants.{Plan, Conflict, OtherPosition, Occupied, FrameFull, SlipsSpent}
use Rattle.fault.specs.declared.kinds.PlanFault.TheVariants.{NoSuchPart}
use Rattle.plan.specs.declared.parts.Position.{Position}
use Rattle.plan.specs.declared.parts.Position.TheVariants.{Normal, Reverse}
use Rattle.plan.specs.Layout.{Layout}
use Rattle.frame.specs.Book.{Book, OpenRow}
use Rattle.frame.specs.Calls.{IsSwitch, OnRow, no_row, Held, Conflicts, Against, LiesOtherwise, OnOccupied, RunsOccupied, Standing, Throwing}
use Rattle.frame.specs.Sections.{section_by}
use Rattle.frame.specs.Tests.{Passes, Test, Judging}
use Rattle.judging.specs.Judged.{Judged}

-- some element of a list passes
abbrev some : {X : Type 0} → (X → Bool) → List X → Bool
some f [] = false
some f (x ∷ xs) = f x || some f xs

module _ {X : Type 0} (d : X) (f : X → Bool) (Q : X → Type 0) (by : (x : X) → Decides (f x) (Q x)) where
  abbrev Somewhere : List X → Type 0
  Somewhere xs = (i : ℕ) × (i < length xs) × Q (get_or xs i d)

  decides_some : (xs : List X) → Decides (some f xs) (Somewhere xs)
  decides_some [] = (λ h. absurd (false≢true h), λ p. let h = p.1 in absurd (omega arith))
  decides_some (x ∷ xs) =
      let o = Decides-or (f x) (some f xs) (by x) (decides_some xs) in (
        λ h. ⊎_elim (λ (q : Q x). (0, omega arith, q)) (λ (p : Somewhere xs). (suc p.0, suc-le-suc p.1, p.2)) (o.0 h),
        λ p. o.1 (which p.0 p.1 p.2),
      )
    where
      which : (i : ℕ) → i < length (x ∷ xs) → Q (get_or (x ∷ xs) i d) → Q x ⊎ Somewhere xs
      which zero h q = inl q
      which (suc i) h q = inr (i, omega arith, q)

abbrev held : List OpenRow → ℕ → Bool
held rs c = some (λ r. some (λ e. eqb (e / 4) c) r.entries) rs

decides_held : (rs : List OpenRow) (c : ℕ) → Decides (held rs c) (Held rs c)
decides_held rs c =
    decides_some no_row (λ r. some (λ e. eqb (e / 4) c) r.entries) (λ r. OnRow r.entries c)
    (λ r. decides_some 0 (λ e. eqb (e / 4) c) (λ e. e / 4 ≡ c) (λ e. Decides-eqb (e / 4) c) r.entries) rs

abbrev against : Position → ℕ → Bool
against Normal z = eqb z 2
against Reverse z = eqb z 1

decides_against : (p : Position) (z : ℕ) → Decides (against p z) (Against p z)
decides_against Normal z = Decides-eqb z 2
decides_against Reverse z = Decides-eqb z 1

-- a section that may be none is occupied
abbrev occupied_at : (ℕ → Bool) → Option ℕ → Bool
occupied_at f None = false
occupied_at f (Some n) = f n

decides_occupied : (f : ℕ → Bool) (o : Option ℕ) → Decides (occupied_at f o) ((n : ℕ) × (o ≡ Some n) × (f n ≡ true))
decides_occupied f None = (λ h. absurd (false≢true h), λ p. let e = p.1 in let z : ◌≡◌ {A = ℕ} 0 1 = cc in absurd (omega arith))
decides_occupied f (Some m) =
    (λ h. (m, refl, h), λ p. let e = p.1 in let same : p.0 ≡ m = cc in ap f (sym same) ∙ p.2)

abbrev on_occupied : Layout → Book → ℕ → Bool
on_occupied l b c = ltb c l.count && occupied_at b.occupied (section_by (l.kind c) c (l.section c))

decides_on_occupied : (l : Layout) (b : Book) (c : ℕ) → Decides (on_occupied l b c) (OnOccupied l b c)
decides_on_occupied l b c =
    let o = section_by (l.kind c) c (l.section c) in
    let d = Decides-and (ltb c l.count) (occupied_at b.occupied o) (Decides-ltb c l.count) (decides_occupied b.occupied o) in
    (λ h. let p = d.0 h in (p.1.0, (p.0, p.1.1), p.1.2), λ p. d.1 (p.1.0, (p.0, p.1.1, p.2)))

-- one test, where its condition is decided
by_test : (x : BoxFault) (C : Type 0) (next : Option BoxFault → Type 0) (t : Bool) (o : Option BoxFault) → Decides t C → next o → Test x C next (cond t (Some x) o)
by_test x C next true o d h = inl (d.0 refl, refl)
by_test x C next false None d h = (not_from_Decides false d refl, h)
by_test x C next false (Some f) d h = inr (not_from_Decides false d refl, h)

module _ (l : Layout) (b : Book) where
  abbrev pub told_standing : List ℕ → Option BoxFault
  told_standing es =
      cond (some (λ e. held b.opened (e / 4)) es) (Some Conflict)
      (cond (some (λ e. against (b.position (e / 4)) (e % 4)) es) (Some OtherPosition)
      (cond (some (λ e. on_occupied l b (e / 4)) es) (Some Occupied)
      (cond (eqb (length b.opened) 8) (Some FrameFull) (cond (eqb b.given 65535) (Some SlipsSpent) None))))

  pub standing : (es : List ℕ) → Standing l b es (told_standing es)
  standing es =
      let spent : Option BoxFault → Type 0 = Test SlipsSpent (b.given ≡ 65535) Passes in
      let full : Option BoxFault → Type 0 = Test FrameFull (length b.opened ≡ 8) spent in
      let occupied : Option BoxFault → Type 0 = Test Occupied (RunsOccupied l b es) full in
      let lying : Option BoxFault → Type 0 = Test OtherPosition (LiesOtherwise b es) occupied in
      by_test Conflict (Conflicts b.opened es) lying (some (λ e. held b.opened (e / 4)) es) _
      (decides_some 0 (λ e. held b.opened (e / 4)) (λ e. Held b.opened (e / 4)) (λ e. decides_held b.opened (e / 4)) es)
      (by_test OtherPosition (LiesOtherwise b es) occupied (some (λ e. against (b.position (e / 4)) (e % 4)) es) _
      (decides_some 0 (λ e. against (b.position (e / 4)) (e % 4)) (λ e. Against (b.position (e / 4)) (e % 4)) (λ e. decides_against (b.position (e / 4)) (e % 4)) es)
      (by_test Occupied (RunsOccupied l b es) full (some (λ e. on_occupied l b (e / 4)) es) _
      (decides_some 0 (λ e. on_occupied l b (e / 4)) (λ e. OnOccupied l b (e / 4)) (λ e. decides_on_occupied l b (e / 4)) es)
      (by_test FrameFull (length b.opened ≡ 8) spent (eqb (length b.opened) 8) _ (Decides-eqb (length b.opened) 8)
      (by_test SlipsSpent (b.given ≡ 65535) Passes (eqb b.given 65535) None (Decides-eqb b.given 65535) tt))))

  -- a throw of a switch
  abbrev pub told_switch : ℕ → Option BoxFault
  told_switch c = cond (held b.opened c) (Some Conflict) (cond (on_occupied l b c) (Some Occupied) None)

  pub throwing : (c : ℕ) → IsSwitch l c → Throwing l b c (told_switch c)
  throwing c switch =
      let rest : Option BoxFault → Type 0 = Test Occupied (OnOccupied l b c) Passes in
      let held_first : Option BoxFault → Type 0 = Test Conflict (Held b.opened c) rest in
      by_test (Plan (NoSuchPart 0)) (IsSwitch l c → ⊥) held_first false (told_switch c) (λ h. absurd (false≢true h), λ n. absurd (n switch))
      (by_test Conflict (Held b.opened c) rest (held b.opened c) (cond (on_occupied l b c) (Some Occupied) None) (decides_held b.opened c)
      (by_test Occupied (OnOccupied l b c) Passes (on_occupied l b c) None (decides_on_occupied l b c) tt))

-- a row that is judged a route goes on to the tests after the judgement
pub judged_then : (l : Layout) (s : List ℕ) (next : Option BoxFault → Type 0) → Judged l s (Ok tt) → (o : Option BoxFault) → next o → Judging l s next o
judged_then l s next j None h = (j, h)
judged_then l s next j (Some f) h = inr (j, h)
