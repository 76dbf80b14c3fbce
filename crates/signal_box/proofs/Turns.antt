-- A turn of the register, as a journal demands it.
use Rattle.std.proofs.Common.{◌≡◌, ℕ, ◌≤◌, List, [], ◌∷◌, ◌++◌, length, take, drop, Some, None, Ok, Err, sym, refl, ap, ◌∙◌, subst, inl, inr, arith}
use lib.Seq.{take-append_seam}
use Rattle.fault.specs.declared.kinds.BoxFault.{BoxFault}
use Rattle.fault.specs.declared.kinds.BoxFault.TheVariants.{Plan, NoSuchSection, ShortSpace, Drained, RowsSpent, NotARow, NoRoute, Conflict, OtherPosition, Occupied, FrameFull, SlipsSpent, UnknownSlip}
use Rattle.plan.specs.Layout.{Layout}
use Rattle.row.specs.Row.{bytes_of, entries_of}
use Rattle.row.proofs.Rows.{read_back}
use Rattle.register.specs.declared.registers.Register.{Register}
use Rattle.register.specs.Routes.{NextRoute, AllOut}
use Rattle.register.specs.Handed.{Handed, Turned}
use Rattle.register.proofs.Handing.{next_one}
use Rattle.signal_box.specs.Turning.{TooLong, Turning}

module _ {P : Type 0} (l : Layout) (rows : List (List ℕ)) (space space' : List ℕ) (g : Register P) where
  -- where a route is next, not all are out
  some_left : (row : List ℕ) → NextRoute l rows row → AllOut l rows → ⊥
  some_left row next all = next.new (all row next.route)

  pub turning_ok : (n : ℕ) → Turned l rows space space' g (Ok n) → Turning l rows space None
  turning_ok n t =
      let few = t.2 in
      let fits = t.3 in
      (some_left t.0 t.1, ((λ (h : 65535 ≤ length rows). omega arith), (short, tt)))
    where
      short : TooLong l rows space → ⊥
      short long =
          let e = ap (λ r. length (bytes_of r)) (next_one l rows t.0 long.0 t.1 long.1) in
          let less = long.2 in
          let fits = t.3 in
          omega arith

  pub turning_err : (f : BoxFault) → Turned l rows space space' g (Err f) → Turning l rows space (Some f)
  turning_err Drained t = inl (t, refl)
  turning_err RowsSpent t = let full = t.1 in let le : 65535 ≤ length rows = omega arith in inr (some_left t.0.0 t.0.1, inl (le, refl))
  turning_err ShortSpace t =
      let few = t.2 in
      inr (some_left t.0 t.1, inr ((λ (h : 65535 ≤ length rows). omega arith), inl ((t.0, t.1, t.3), refl)))
  turning_err (Plan e) t = absurd t
  turning_err NoSuchSection t = absurd t
  turning_err NotARow t = absurd t
  turning_err (NoRoute k) t = absurd t
  turning_err Conflict t = absurd t
  turning_err OtherPosition t = absurd t
  turning_err Occupied t = absurd t
  turning_err FrameFull t = absurd t
  turning_err SlipsSpent t = absurd t
  turning_err UnknownSlip t = absurd t

  -- the row that a turn wrote is read back from the space
  pub row_written : (n : ℕ) (t : Turned l rows space space' g (Ok n)) → entries_of (take n space') ≡ t.0
  row_written n t =
      ap (λ (s : List ℕ). entries_of (take n s)) t.5
      ∙ ap (λ k. entries_of (take k (bytes_of t.0 ++ drop n space))) t.4
      ∙ ap entries_of (take-append_seam (bytes_of t.0) (drop n space))
      ∙ read_back t.0

  pub handed_on : (n : ℕ) → Turned l rows space space' g (Ok n) → Handed l (rows ++ entries_of (take n space') ∷ []) g
  handed_on n t =
      let H : List ℕ → Type 0 = λ row. Handed l (rows ++ row ∷ []) g in
      subst H (sym (row_written n t)) t.6
