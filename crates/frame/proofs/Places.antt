-- The place of a serial among the open rows.
use Rattle.std.proofs.Common.{◌≡◌, ℕ, zero, suc, ◌<◌, Bool, cond, List, [], ◌∷◌, length, get_or, Option, Some, None, MatchOption, sym, ap, ◌∙◌, suc-le-suc, arith}
use Rattle.std.proofs.lemmas.Bool.{eq-eqb, ne_eqb}
use Rattle.std.proofs.lemmas.List.{length-map, get_or-map}
use Rattle.std.specs.List.{remove, HoldsAt, AllWithin}
use Rattle.frame.specs.declared.open_route.OpenRoute.{OpenRoute}
use Rattle.frame.specs.Book.{OpenRow, struck}
use Rattle.frame.specs.Calls.{no_row}
use Rattle.frame.specs.Placed.{Placed}
use Rattle.frame.specs.View.{open_row, open_rows}

-- the row that is struck is the first with the serial
struck_first : (rs : List OpenRow) (s i : ℕ) → i < length rs → (get_or rs i no_row).serial ≡ s → ((k : ℕ) → k < i → (get_or rs k no_row).serial ≡ s → ⊥) → struck s rs ≡ remove rs i
struck_first [] s i h e before = absurd (omega arith)
struck_first (r ∷ rs) s zero h e before = ap (λ (b : Bool). cond b rs (r ∷ struck s rs)) (eq-eqb r.serial s e)
struck_first (r ∷ rs) s (suc i) h e before =
    ap (λ (b : Bool). cond b rs (r ∷ struck s rs)) (ne_eqb r.serial s (before zero (omega arith)))
    ∙ ap (λ (xs : List OpenRow). r ∷ xs) (struck_first rs s i (omega arith) e (λ k l. before (suc k) (suc-le-suc l)))

abbrev pub Has : ℕ → OpenRoute → Type 0
Has s x = x.serial ≡ s

abbrev pub HasNot : ℕ → OpenRoute → Type 0
HasNot s x = x.serial ≡ s → ⊥

serial_at : (rs : List OpenRoute) (i : ℕ) (d : OpenRoute) → i < length rs → (get_or (open_rows rs) i no_row).serial ≡ (get_or rs i d).serial
serial_at rs i d h = ap (λ (r : OpenRow). r.serial) (get_or-map open_row rs i d no_row h)

pub placed : (rs : List OpenRoute) (s : ℕ) (r : Option ℕ) → MatchOption r (AllWithin (HasNot s) rs 0 (length rs)) (λ i. (i < length rs) × HoldsAt (Has s) rs i × AllWithin (HasNot s) rs 0 i) → Placed (open_rows rs) s r
placed [] s None h = λ o. let k = o.1 in omega arith
placed [] s (Some i) h = let k = h.0 in absurd (omega arith)
placed (x ∷ xs) s None h = λ o.
    let k = o.1 in
    let n = length-map (x ∷ xs) open_row in
    let low : o.0 < length (x ∷ xs) = omega arith in
    h o.0 x (omega arith) low (sym (serial_at (x ∷ xs) o.0 x low) ∙ o.2)
placed (x ∷ xs) s (Some i) h =
    let inside : i < length (open_rows (x ∷ xs)) = simp length-map h.0 in
    let has = serial_at (x ∷ xs) i x h.0 ∙ h.1 x in
    let k = h.0 in
    (inside, has, struck_first (open_rows (x ∷ xs)) s i inside has (λ j l e. h.2 j x (omega arith) l (sym (serial_at (x ∷ xs) j x (omega arith)) ∙ e)))
