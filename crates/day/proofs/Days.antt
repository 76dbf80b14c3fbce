-- A day goes on by one order, and can be cut after each.
use Rattle.std.proofs.Common.{◌≡◌, ℕ, zero, suc, List, [], ◌∷◌, ◌++◌, Option, sym, refl, subst, arith}
use Rattle.plan.specs.Layout.{Layout}
use Rattle.signal_box.specs.declared.signal_box.SignalBox.{SignalBox}
use Rattle.signal_box.specs.Journal.{Journal, Event}
use Rattle.signal_box.specs.Kept.{Kept}
use Rattle.day.specs.declared.orders.Order.{Order}
use Rattle.day.specs.declared.orders.Answer.{Answer}
use Rattle.day.specs.Performed.{Performed}
use Rattle.day.specs.Day.{noted, Answered, Day, Holds, Throughout}
use Rattle.day.specs.Chain.{Chain, Served}
use Rattle.day.specs.Step.{Step}

pub holds_now : {P : Type 0} (l : Layout) (j : Journal) (x : SignalBox P) → Kept l j x → Holds P l j
holds_now l j x kept = record { first = kept.handed.first; safe = kept.safe; box = (x, kept) }

-- one link more
abbrev Link : Layout → Journal → List ℕ → Order → Answer → Journal → List ℕ → Type 0
Link l c q o a d s = (e : Option Event) × Performed o a q s e × Answered l c e × (d ≡ noted c e)

module _ (P : Type 0) (l : Layout) (o : Order) (a : Answer) (d : Journal) (s : List ℕ) (holds : Holds P l d) where
  chain_push : (j : Journal) (p : List ℕ) (os : List Order) (rs : List Answer) (c : Journal) (q : List ℕ) → Chain P l j p os rs c q → Link l c q o a d s → Chain P l j p (os ++ o ∷ []) (rs ++ a ∷ []) d s
  chain_push j p [] [] c q h k =
      let F : Journal → Type 0 = λ x. Link l x q o a d s in
      let G : List ℕ → Type 0 = λ x. Link l j x o a d s in
      let m = subst G h.2 (subst F h.1 k) in
      let H : Journal → Type 0 = λ x. Holds P l x in
      (h.0, (m.0, s, m.1, m.2, (subst H m.3 holds, m.3, refl)))
  chain_push j p [] (b ∷ rs) c q h k = absurd h
  chain_push j p (n ∷ os) [] c q h k = absurd h
  chain_push j p (n ∷ os) (b ∷ rs) c q h k =
      let t = h.1 in
      (h.0, (t.0, t.1, t.2, t.3, chain_push (noted j t.0) t.1 os rs c q t.4 k))

pub served_none : {P : Type 0} (l : Layout) (j : Journal) (p : List ℕ) (x : SignalBox P) → Kept l j x → Served l j p [] [] p x
served_none l j p x kept = (j, (holds_now l j x kept, refl, refl), kept)

-- the next order, at a plan that is still the one of the start, and at the answers as pushed
pub served_more : {P : Type 0} (layout : P → Layout) (u v : P) (j : Journal) (p : List ℕ) (os : List Order) (rs ts : List Answer) (q : List ℕ) (x y : SignalBox P) (o : Order) (a : Answer) (s : List ℕ)
    → u ≡ v → Served (layout v) j p os rs q x → ((c : Journal) → Kept (layout u) c x → Step (layout u) c q o a s y) → ts ≡ rs ++ a ∷ [] → Served (layout v) j p (os ++ o ∷ []) ts s y
served_more {P} layout u v j p os rs ts q x y o a s e h step pushed =
    let S : P → Type 0 = λ z. (c : Journal) → Kept (layout z) c x → Step (layout z) c q o a s y in
    let t = subst S e step h.0 h.2 in
    let d = noted h.0 t.0 in
    let C : List Answer → Type 0 = λ us. Chain P (layout v) j p (os ++ o ∷ []) us d s in
    (d, subst C (sym pushed) (chain_push P (layout v) o a d s (holds_now (layout v) d y t.3) j p os rs h.0 q h.1 (t.0, t.1, t.2, refl)), t.3)

module _ (P : Type 0) (l : Layout) where
  pub chain_day : (j : Journal) (p : List ℕ) (os : List Order) (rs : List Answer) (j' : Journal) (p' : List ℕ) → Chain P l j p os rs j' p' → Day l j p os rs j' p'
  chain_day j p [] [] j' p' h = (h.1, h.2)
  chain_day j p [] (b ∷ rs) j' p' h = absurd h
  chain_day j p (o ∷ os) [] j' p' h = absurd h
  chain_day j p (o ∷ os) (a ∷ rs) j' p' h =
      let t = h.1 in
      (t.0, t.1, t.2, t.3, chain_day (noted j t.0) t.1 os rs j' p' t.4)

  starts_so : (j : Journal) (p : List ℕ) (os : List Order) (rs : List Answer) (j' : Journal) (p' : List ℕ) → Chain P l j p os rs j' p' → Holds P l j
  starts_so j p [] [] j' p' h = h.0
  starts_so j p [] (b ∷ rs) j' p' h = absurd h
  starts_so j p (o ∷ os) [] j' p' h = absurd h
  starts_so j p (o ∷ os) (a ∷ rs) j' p' h = h.0

  pub chain_throughout : (j : Journal) (p : List ℕ) (os : List Order) (rs : List Answer) (j' : Journal) (p' : List ℕ) → Chain P l j p os rs j' p' → Throughout P l j p os rs j' p'
  chain_throughout j p os rs j' p' h zero n = (j, p, (refl, refl), starts_so j p os rs j' p' h, chain_day j p os rs j' p' h)
  chain_throughout j p [] [] j' p' h (suc k) n = absurd (omega arith)
  chain_throughout j p [] (b ∷ rs) j' p' h (suc k) n = absurd h
  chain_throughout j p (o ∷ os) [] j' p' h (suc k) n = absurd h
  chain_throughout j p (o ∷ os) (a ∷ rs) j' p' h (suc k) n =
      let t = h.1 in
      let i = chain_throughout (noted j t.0) t.1 os rs j' p' t.4 k (omega arith) in
      (i.0, i.1, (t.0, t.1, t.2, t.3, i.2), i.3, i.4)
