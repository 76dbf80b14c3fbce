-- The slips of the pool stay those of the open rows.
use Rattle.std.proofs.Common.{◌≡◌, ℕ, ◌+◌, ◌<◌, List, [], ◌∷◌, ◌++◌, map, Some, Vec, vec_items, vec_len, sym, ap, ◌∙◌, subst, inl, inr, arith}
use Rattle.std.proofs.lemmas.List.{map_push, nil_from_length}
use Rattle.std.specs.declared.alloc.Global.{Global}
use Rattle.fault.specs.declared.kinds.BoxFault.{BoxFault}
use Rattle.frame.specs.declared.slip.Slip.{Slip}
use Rattle.frame.specs.Book.{OpenRow, Book, closed_at}
use Rattle.frame.specs.Calls.{IsOpen, Releasing}
use Rattle.day.specs.Balance.{copies, open_serials, Balanced}
use Rattle.day.specs.Pool.{serials}
use Rattle.day.proofs.Copies.{copies_none, copies_append, copies_of_one, copies_closed, copies_struck}
use Rattle.frame_demo.specs.Matched.{Matched}

none_open : (s : ℕ) (b : Book) → b.opened ≡ [] → copies s (open_serials b) ≡ 0
none_open s b e = ap (λ (rs : List OpenRow). copies s (map (λ r. r.serial) rs)) e ∙ copies_none s

-- nothing was opened
pub balanced_still : (p : List ℕ) (b : Book) → b.opened ≡ [] → Balanced p p b
balanced_still p b e s = omega (arith, none_open s b e)

-- a day on each frame, with no slip before
pub matched_both : (pool : Vec Slip Global) (q r : List ℕ) (a b : Book) → vec_len pool ≡ 0 → Balanced (serials (vec_items pool)) q a → Balanced q r b → Matched r a b
matched_both pool q r a b e first second s =
    let empty = nil_from_length (vec_items pool) (sym pool.ok.0 ∙ e) in
    let h = first s in
    let k = second s in
    omega (arith, ap (λ (xs : List Slip). copies s (serials xs)) empty ∙ copies_none s)

-- a slip that closed its row on one of the frames
module _ (n : ℕ) (p : List ℕ) (a b : Book) (m : Matched (p ++ n ∷ []) a b) where
  pub matched_closed_first : (c : Book) → ((IsOpen a.opened n → ⊥) → ⊥) → c ≡ closed_at a n → Matched p c b
  matched_closed_first c was e s =
      let before = m s in
      omega (arith, copies_append s p (n ∷ []), copies_struck s n a.opened was, ap (λ x. copies s (open_serials x)) e)

  pub matched_closed_second : (c : Book) → ((IsOpen b.opened n → ⊥) → ⊥) → c ≡ closed_at b n → Matched p a c
  matched_closed_second c was e s =
      let before = m s in
      omega (arith, copies_append s p (n ∷ []), copies_struck s n b.opened was, ap (λ x. copies s (open_serials x)) e)

-- a slip that left the pool
module _ (ss ts : List Slip) (x : Slip) (a b : Book) (e : ss ≡ ts ++ x ∷ []) (m : Matched (serials ss) a b) where
  popped : Matched (serials ts ++ x.serial ∷ []) a b
  popped s =
      let F : List ℕ → Type 0 = λ p. copies s p ≡ copies s (open_serials a) + copies s (open_serials b) in
      subst F (ap serials e ∙ map_push (λ (y : Slip). y.serial) ts x) (m s)

  pub matched_released : (c : Book) → ((IsOpen a.opened x.serial → ⊥) → ⊥) → c ≡ closed_at a x.serial → Matched (serials ts) c b
  matched_released = matched_closed_first x.serial (serials ts) a b popped

  -- its row is open on one of the frames
  pub open_somewhere : 0 < copies x.serial (open_serials a) + copies x.serial (open_serials b)
  open_somewhere =
      let all = popped x.serial in
      omega (arith, copies_append x.serial (serials ts) (x.serial ∷ []), copies_of_one x.serial)

refused_closed : (b : Book) (n : ℕ) (f : BoxFault) → Releasing b n (Some f) → IsOpen b.opened n → ⊥
refused_closed b n f (inl h) = h.0
refused_closed b n f (inr h) = absurd h.1

-- so not both of them refuse it
pub one_accepts : (n : ℕ) (a b : Book) (f g : BoxFault) → 0 < copies n (open_serials a) + copies n (open_serials b) → Releasing a n (Some f) → Releasing b n (Some g) → ⊥
one_accepts n a b f g h first second =
    omega (arith, copies_closed n a.opened (refused_closed a n f first), copies_closed n b.opened (refused_closed b n g second))
