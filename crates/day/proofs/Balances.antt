-- The pool of slips and the open rows move together, order by order.
use Rattle.std.proofs.Common.{◌≡◌, ℕ, ◌+◌, ◌<◌, List, [], ◌∷◌, ◌++◌, length, get_or, Ok, Err, Option, Result, refl, ap, ◌∙◌, inl, inr, vec_items, arith}
use Rattle.std.proofs.lemmas.List.{map_push}
use Rattle.std.specs.List.{remove}
use Rattle.fault.specs.declared.kinds.BoxFault.{BoxFault}
use Rattle.plan.specs.declared.parts.Position.{Position}
use Rattle.plan.specs.Layout.{Layout}
use Rattle.frame.specs.Book.{OpenRow, Book}
use Rattle.frame.specs.Calls.{Releasing}
use Rattle.frame.specs.Tests.{refusal}
use Rattle.signal_box.proofs.Struck.{serials}
use Rattle.signal_box.specs.Journal.{Journal, Event, unwritten, after}
use Rattle.signal_box.specs.Journal.Event.{Turned, Thrown, Occupied, Cleared, Opened, Released}
use Rattle.day.specs.declared.orders.Order.{Order}
use Rattle.day.specs.declared.orders.Order.TheVariants.{Turn, Restart, Throw, Occupy, Clear, Open, Release}
use Rattle.day.specs.declared.orders.Answer.{Answer}
use Rattle.day.specs.Balance.{copies, Balanced}
use Rattle.day.specs.Day.{noted, Answered, Day, WholeDay}
use Rattle.day.specs.Performed.{Performed}
use Rattle.day.specs.Pool.{with_given, with_brought}
use Rattle.day.proofs.Copies.{copies_none, copies_append, copies_removed, copies_struck}

-- one order, on a pool that was `start` at first
module _ (l : Layout) (start p : List ℕ) (j : Journal) (kept : Balanced start p j.book) where
  -- calls that open and close nothing
  turned : (v w : List ℕ) (r : Result ℕ BoxFault) → Balanced start p (after j (Turned v w r)).book
  turned v w (Ok n) = kept
  turned v w (Err f) = kept

  thrown : (c : ℕ) (t : Position) (r : Result (Unit {0}) BoxFault) → Balanced start p (after j (Thrown c t r)).book
  thrown c t (Ok u) = kept
  thrown c t (Err f) = kept

  occupied : (n : ℕ) (r : Result (Unit {0}) BoxFault) → Balanced start p (after j (Occupied n r)).book
  occupied n (Ok u) = kept
  occupied n (Err f) = kept

  cleared : (n : ℕ) (r : Result (Unit {0}) BoxFault) → Balanced start p (after j (Cleared n r)).book
  cleared n (Ok u) = kept
  cleared n (Err f) = kept

  given : (n : ℕ) (row : OpenRow) → row.serial ≡ n → (s : ℕ) → copies s (p ++ n ∷ []) ≡ copies s start + copies s (serials (j.book.opened ++ row ∷ []))
  given n row e s =
      let rows = ap (copies s) (map_push (λ (r : OpenRow). r.serial) j.book.opened row ∙ ap (λ m. serials j.book.opened ++ m ∷ []) e) in
      let before = kept s in
      omega (arith, copies_append s p (n ∷ []), copies_append s (serials j.book.opened) (n ∷ []))

  opened : (v : List ℕ) (r : Result ℕ BoxFault) → Balanced start (with_given p r) (after j (Opened v r)).book
  opened v (Err f) = kept
  opened v (Ok n) = given n _ refl

  released : (k : ℕ) (r : Result (Unit {0}) BoxFault) → k < length p → Releasing j.book (get_or p k 0) (refusal r)
      → Balanced start (with_brought p k r) (after j (Released (get_or p k 0) r)).book
  released k (Ok u) h d s =
      let before = kept s in
      omega (arith, copies_removed s p k h, copies_struck s (get_or p k 0) j.book.opened d.0)
  released k (Err f) h d s =
      let before = kept s in
      omega (arith, copies_removed s p k h, copies_append s (remove p k) (get_or p k 0 ∷ []))

  performed : (o : Order) (a : Answer) (q : List ℕ) (e : Option Event) → Performed o a p q e → Answered l j e → Balanced start q (noted j e).book
  performed (Turn v) a q e t d = rw (t.3, t.4) (turned (vec_items v) (vec_items t.0) t.1)
  performed Restart a q e t d = rw (t.1, t.2) kept
  performed (Throw c m) a q e t d = rw (t.2, t.3) (thrown c m t.0)
  performed (Occupy n) a q e t d = rw (t.2, t.3) (occupied n t.0)
  performed (Clear n) a q e t d = rw (t.2, t.3) (cleared n t.0)
  performed (Open v) a q e t d = rw (t.2, t.3) (opened (vec_items v) t.0)
  performed (Release k) a q e (inl (h, t)) d = rw (t.2, t.3) (released k t.0 h (rw t.2 at d))
  performed (Release k) a q e (inr t) d = rw (t.2, t.3) kept

day_balanced : (l : Layout) (start p : List ℕ) (j : Journal) (os : List Order) (rs : List Answer) (j' : Journal) (p' : List ℕ) → Day l j p os rs j' p' → Balanced start p j.book → Balanced start p' j'.book
day_balanced l start p j [] [] j' p' h kept = rw (h.0, h.1) kept
day_balanced l start p j [] (a ∷ rs) j' p' h kept = absurd h
day_balanced l start p j (o ∷ os) [] j' p' h kept = absurd h
day_balanced l start p j (o ∷ os) (a ∷ rs) j' p' h kept =
    day_balanced l start h.1 (noted j h.0) os rs j' p' h.4 (performed l start p j kept o a h.1 h.0 h.2 h.3)

pub whole_balanced : (P : Type 0) (l : Layout) (p : List ℕ) (os : List Order) (rs : List Answer) (p' : List ℕ) (b : Book) → WholeDay P l p os rs p' b → Balanced p p' b
whole_balanced P l p os rs p' b h = rw h.2 (day_balanced l p p unwritten os rs h.0 p' h.1 (λ s. omega (arith, copies_none s)))
