-- What the call that writes a row says of the row and the space.
use Rattle.std.proofs.Common.{◌≡◌, ℕ, ◌<◌, ◌≤◌, Bool, true, false, cond, ltb, List, ◌++◌, length, drop, Ok, Err, Result, sym, refl, ap, ◌∙◌}
use Rattle.std.proofs.lemmas.Bool.{ltb-true, ltb-false}
use Rattle.fault.specs.declared.kinds.BoxFault.{BoxFault}
use Rattle.fault.specs.declared.kinds.BoxFault.TheVariants.{ShortSpace, NotARow}
use Rattle.row.specs.Row.{is_entries, bytes_of}
use Rattle.row.specs.Written.{row_told, row_left}

abbrev told : Bool → Bool → ℕ → Result ℕ BoxFault
told shaped short n = cond shaped (cond short (Err ShortSpace) (Ok n)) (Err NotARow)

abbrev space_left : Bool → Bool → List ℕ → List ℕ → List ℕ
space_left shaped short s t = cond shaped (cond short s t) s

refusal : (shaped short : Bool) (n : ℕ) (e : BoxFault) → Err e ≡ told shaped short n → shaped ≡ true → (e ≡ ShortSpace) × (short ≡ true)
refusal true true n e h k = (cc, refl)
refusal true false n e h k = (cc, cc)
refusal false short n e h k = (cc, cc)

refused_left : (shaped short : Bool) (n : ℕ) (e : BoxFault) (s t : List ℕ) → Err e ≡ told shaped short n → space_left shaped short s t ≡ s
refused_left true true n e s t h = refl
refused_left true false n e s t h = cc
refused_left false short n e s t h = refl

success : (shaped short : Bool) (n m : ℕ) (s t : List ℕ) → Ok m ≡ told shaped short n → (short ≡ false) × (m ≡ n) × (space_left shaped short s t ≡ t)
success true true n m s t h = (cc, cc, cc)
success true false n m s t h = (refl, cc, refl)
success false short n m s t h = (cc, cc, cc)

module _ (es s : List ℕ) where
  pub not_written : (e : BoxFault) → Err e ≡ row_told es s → is_entries es ≡ true → (e ≡ ShortSpace) × (length s < length (bytes_of es))
  not_written e h k =
      let r = refusal (is_entries es) (ltb (length s) (length (bytes_of es))) (length (bytes_of es)) e h k in
      (r.0, ltb-true (length s) (length (bytes_of es)) r.1)

  pub not_touched : (e : BoxFault) → Err e ≡ row_told es s → row_left es s ≡ s
  not_touched e h = refused_left (is_entries es) (ltb (length s) (length (bytes_of es))) (length (bytes_of es)) e s _ h

  pub written : (n : ℕ) → Ok n ≡ row_told es s → (length (bytes_of es) ≤ length s) × (n ≡ length (bytes_of es)) × (row_left es s ≡ bytes_of es ++ drop n s)
  written n h =
      let r = success (is_entries es) (ltb (length s) (length (bytes_of es))) (length (bytes_of es)) n s _ h in
      (ltb-false (length s) (length (bytes_of es)) r.0, r.1, r.2 ∙ ap (λ k. bytes_of es ++ drop k s) (sym r.1))
