-- How often a serial stands in a list, and among the open rows.
use Rattle.std.proofs.Common.{◌≡◌, ℕ, zero, suc, ◌+◌, ◌<◌, Bool, true, false, cond, eqb, List, [], ◌∷◌, ◌++◌, length, get_or, refl, ap, ◌∙◌, zero-add, suc-le-suc, arith}
use Rattle.std.proofs.lemmas.Bool.{eq-eqb, eqb-true, ne_eqb}
use Rattle.std.proofs.lemmas.List.Sums.{sum_by-append, sum_by-remove}
use Rattle.std.specs.List.{remove}
use Rattle.frame.specs.Book.{OpenRow, struck}
use Rattle.frame.specs.Calls.{no_row, IsOpen}
use Rattle.signal_box.proofs.Struck.{serials}
use Rattle.day.specs.Balance.{copies}

pub copies_none : (s : ℕ) → copies s [] ≡ 0
unfolding copies
copies_none s = refl

pub copies_append : (s : ℕ) (ms ns : List ℕ) → copies s (ms ++ ns) ≡ copies s ms + copies s ns
unfolding copies
copies_append s ms ns = sum_by-append (λ n. cond (eqb n s) 1 0) ms ns

copies_cons : (s n : ℕ) (ns : List ℕ) → copies s (n ∷ ns) ≡ copies s (n ∷ []) + copies s ns
copies_cons s n ns = copies_append s (n ∷ []) ns

pub copies_of_one : (s : ℕ) → copies s (s ∷ []) ≡ 1
unfolding copies
copies_of_one s = ap (λ b. 0 + cond b 1 0) (eq-eqb s s refl)

copies_of_other : (s n : ℕ) → (n ≡ s → ⊥) → copies s (n ∷ []) ≡ 0
unfolding copies
copies_of_other s n h = ap (λ b. 0 + cond b 1 0) (ne_eqb n s h)

pub copies_removed : (s : ℕ) (ns : List ℕ) (k : ℕ) → k < length ns → copies s (remove ns k) + copies s (get_or ns k 0 ∷ []) ≡ copies s ns
unfolding copies
copies_removed s ns k h =
    let f : ℕ → ℕ = λ n. cond (eqb n s) 1 0 in
    ap (λ x. copies s (remove ns k) + x) (zero-add (f (get_or ns k 0))) ∙ sum_by-remove f ns k 0 h

-- a serial that no open row has
pub copies_closed : (n : ℕ) (rows : List OpenRow) → (IsOpen rows n → ⊥) → copies n (serials rows) ≡ 0
copies_closed n [] none = copies_none n
copies_closed n (r ∷ rows) none =
    let here = copies_of_other n r.serial (λ e. none (zero, omega arith, e)) in
    let behind = copies_closed n rows (λ o. none (suc o.0, suc-le-suc o.1, o.2)) in
    omega (arith, copies_cons n r.serial (serials rows))

-- striking a serial that an open row has takes it away once
module _ (s n : ℕ) (r : OpenRow) (rows : List OpenRow) where
  struck_by : (b : Bool) → eqb r.serial n ≡ b → ((IsOpen (r ∷ rows) n → ⊥) → ⊥)
      → (((IsOpen rows n → ⊥) → ⊥) → copies s (serials (struck n rows)) + copies s (n ∷ []) ≡ copies s (serials rows))
      → copies s (serials (cond b rows (r ∷ struck n rows))) + copies s (n ∷ []) ≡ copies s (serials (r ∷ rows))
  struck_by true e h behind =
      let same = ap (λ m. copies s (m ∷ [])) (eqb-true r.serial n e) in
      omega (arith, copies_cons s r.serial (serials rows))
  struck_by false e h behind =
      let rest = behind (λ none. h (λ o. later none o.0 o.1 o.2)) in
      omega (arith, copies_cons s r.serial (serials rows), copies_cons s r.serial (serials (struck n rows)))
    where
      later : (IsOpen rows n → ⊥) → (k : ℕ) → k < length (r ∷ rows) → (get_or (r ∷ rows) k no_row).serial ≡ n → ⊥
      later none zero l m = let x = eq-eqb r.serial n m in cc
      later none (suc k) l m = none (k, omega arith, m)

pub copies_struck : (s n : ℕ) (rows : List OpenRow) → ((IsOpen rows n → ⊥) → ⊥) → copies s (serials (struck n rows)) + copies s (n ∷ []) ≡ copies s (serials rows)
copies_struck s n [] h = absurd (h (λ o. let k = o.1 in omega arith))
copies_struck s n (r ∷ rows) h = struck_by s n r rows (eqb r.serial n) refl h (copies_struck s n rows)
