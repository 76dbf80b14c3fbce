-- What a turn answers where the next route is known.
use Rattle.std.proofs.Common.{◌≡◌, ℕ, ◌<◌, ltb, List, ◌++◌, length, drop, Ok, Err, Result, sym, refl, ap, ◌∙◌, arith}
use Rattle.std.proofs.lemmas.Bool.{lt-ltb, le-ltb, cond-true, cond-false}
use Rattle.fault.specs.declared.kinds.BoxFault.{BoxFault}
use Rattle.fault.specs.declared.kinds.BoxFault.TheVariants.{Plan, NoSuchSection, ShortSpace, Drained, RowsSpent, NotARow, NoRoute, Conflict, OtherPosition, Occupied, FrameFull, SlipsSpent, UnknownSlip}
use Rattle.plan.specs.Layout.{Layout}
use Rattle.row.specs.Row.{bytes_of}
use Rattle.row.specs.Put.{text_told}
use Rattle.register.specs.declared.registers.Register.{Register}
use Rattle.register.specs.Routes.{NextRoute, AllOut}
use Rattle.register.specs.Handed.{Turned}
use Rattle.register.proofs.Handing.{next_one}

module _ {P : Type 0} (l : Layout) (rows : List (List ℕ)) (space space' : List ℕ) (g : Register P) where
  -- the row is written where the space has room for it
  pub turn_told : (row : List ℕ) → NextRoute l rows row → length rows < 65535 → (r : Result ℕ BoxFault) → Turned l rows space space' g r → r ≡ text_told (bytes_of row) space
  turn_told row next few (Ok n) t =
      let e : length (bytes_of t.0) ≡ length (bytes_of row) = ap (λ x. length (bytes_of x)) (next_one l rows t.0 row t.1 next) in
      let room = t.3 in
      let size = t.4 in
      ap Ok (size ∙ e) ∙ sym (cond-false (ltb (length space) (length (bytes_of row))) (Err ShortSpace) (Ok (length (bytes_of row))) (le-ltb (length space) (length (bytes_of row)) (omega arith)))
  turn_told row next few (Err Drained) t = absurd (next.new (t row next.route))
  turn_told row next few (Err RowsSpent) t = let all = t.1 in absurd (omega arith)
  turn_told row next few (Err ShortSpace) t =
      let e : length (bytes_of t.0) ≡ length (bytes_of row) = ap (λ x. length (bytes_of x)) (next_one l rows t.0 row t.1 next) in
      let short = t.3 in
      sym (cond-true (ltb (length space) (length (bytes_of row))) (Err ShortSpace) (Ok (length (bytes_of row))) (lt-ltb (length space) (length (bytes_of row)) (omega arith)))
  turn_told row next few (Err (Plan e)) t = absurd t
  turn_told row next few (Err NoSuchSection) t = absurd t
  turn_told row next few (Err NotARow) t = absurd t
  turn_told row next few (Err (NoRoute k)) t = absurd t
  turn_told row next few (Err Conflict) t = absurd t
  turn_told row next few (Err OtherPosition) t = absurd t
  turn_told row next few (Err Occupied) t = absurd t
  turn_told row next few (Err FrameFull) t = absurd t
  turn_told row next few (Err SlipsSpent) t = absurd t
  turn_told row next few (Err UnknownSlip) t = absurd t

  pub turn_left : (row : List ℕ) → NextRoute l rows row → (n : ℕ) → Turned l rows space space' g (Ok n) → space' ≡ bytes_of row ++ drop n space
  turn_left row next n t = t.5 ∙ ap (λ x. bytes_of x ++ drop n space) (next_one l rows t.0 row t.1 next)

  -- no route is left
  pub turn_drained : AllOut l rows → (r : Result ℕ BoxFault) → Turned l rows space space' g r → r ≡ Err Drained
  turn_drained out (Ok n) t = absurd (t.1.new (out t.0 t.1.route))
  turn_drained out (Err Drained) t = refl
  turn_drained out (Err RowsSpent) t = absurd (t.0.1.new (out t.0.0 t.0.1.route))
  turn_drained out (Err ShortSpace) t = absurd (t.1.new (out t.0 t.1.route))
  turn_drained out (Err (Plan e)) t = absurd t
  turn_drained out (Err NoSuchSection) t = absurd t
  turn_drained out (Err NotARow) t = absurd t
  turn_drained out (Err (NoRoute k)) t = absurd t
  turn_drained out (Err Conflict) t = absurd t
  turn_drained out (Err OtherPosition) t = absurd t
  turn_drained out (Err Occupied) t = absurd t
  turn_drained out (Err FrameFull) t = absurd t
  turn_drained out (Err SlipsSpent) t = absurd t
  turn_drained out (Err UnknownSlip) t = absurd t
