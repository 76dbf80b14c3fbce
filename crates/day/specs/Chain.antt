-- A day as it is served: with what holds before the first order and after each.
use Rattle.std.specs.Prelude.{◌≡◌, ℕ, List, [], ◌∷◌, Option}
use Rattle.plan.specs.Layout.{Layout}
use Rattle.signal_box.specs.declared.signal_box.SignalBox.{SignalBox}
use Rattle.signal_box.specs.Journal.{Journal, Event}
use Rattle.signal_box.specs.Kept.{Kept}
use Rattle.day.specs.declared.orders.Order.{Order}
use Rattle.day.specs.declared.orders.Answer.{Answer}
use Rattle.day.specs.Performed.{Performed}
use Rattle.day.specs.Day.{noted, Answered, Holds}

abbrev pub Chain : Type 0 → Layout → Journal → List ℕ → List Order → List Answer → Journal → List ℕ → Type 0
Chain P l j p [] [] j' p' = Holds P l j × (j' ≡ j) × (p' ≡ p)
Chain P l j p [] (a ∷ rs) j' p' = ⊥
Chain P l j p (o ∷ os) [] j' p' = ⊥
Chain P l j p (o ∷ os) (a ∷ rs) j' p' =
    Holds P l j × ((e : Option Event) × (q : List ℕ) × Performed o a p q e × Answered l j e × Chain P l (noted j e) q os rs j' p')

-- the orders were served so, and the box is as the journal then says
abbrev pub Served : {P : Type 0} → Layout → Journal → List ℕ → List Order → List Answer → List ℕ → SignalBox P → Type 0
Served {P} l j p os rs p' x = (j' : Journal) × Chain P l j p os rs j' p' × Kept l j' x
