-- A whole day: any orders on any pool of slips, and what holds from the start and after every call.
use Rattle.std.specs.Prelude.{◌≡◌, ℕ, ◌≤◌, List, [], ◌∷◌, length, take, drop, Some, None, Option}
use Rattle.plan.specs.Layout.{Layout}
use Rattle.register.specs.Routes.{FirstRoutes}
use Rattle.frame.specs.Book.{Book}
use Rattle.signal_box.specs.declared.signal_box.SignalBox.{SignalBox}
use Rattle.signal_box.specs.Journal.{Journal, Event, unwritten, after, Demands}
use Rattle.signal_box.specs.Kept.{Kept}
use Rattle.signal_box.specs.Safety.{Safe}
use Rattle.day.specs.declared.orders.Order.{Order}
use Rattle.day.specs.declared.orders.Answer.{Answer}
use Rattle.day.specs.Performed.{Performed}

-- where no call was made, nothing is written and nothing is demanded
abbrev pub noted : Journal → Option Event → Journal
noted j None = j
noted j (Some e) = after j e

abbrev pub Answered : Layout → Journal → Option Event → Type 0
Answered l j None = Unit {0}
Answered l j (Some e) = Demands l j e

-- From the journal `j` and the pool `p` the orders, answered so, lead to the journal `j'` and the pool `p'`: each order was
-- performed on what the orders before it left, and each call answered as the journal before it demands.
abbrev pub Day : Layout → Journal → List ℕ → List Order → List Answer → Journal → List ℕ → Type 0
Day l j p [] [] j' p' = (j' ≡ j) × (p' ≡ p)
Day l j p [] (a ∷ rs) j' p' = ⊥
Day l j p (o ∷ os) [] j' p' = ⊥
Day l j p (o ∷ os) (a ∷ rs) j' p' =
    (e : Option Event) × (q : List ℕ) × Performed o a p q e × Answered l j e × Day l (noted j e) q os rs j' p'

-- What holds at a moment: the rows handed out since the start or the last restart are the plan's first routes in their
-- order; the open routes are safe; and there is a box that is as the journal says.
pub record Holds (P : Type 0) (l : Layout) (j : Journal) : Type 0 where
  pub first : FirstRoutes l j.rows
  pub safe : Safe l j.book j.out
  pub box : (x : SignalBox P) × Kept l j x

-- at the start, and after each of the calls: the day up to there, what holds there, and the day from there
abbrev pub Throughout : Type 0 → Layout → Journal → List ℕ → List Order → List Answer → Journal → List ℕ → Type 0
Throughout P l j p os rs j' p' =
    (k : ℕ) → k ≤ length os →
    (c : Journal) × (q : List ℕ) × Day l j p (take k os) (take k rs) c q × Holds P l c × Day l c q (drop k os) (drop k rs) j' p'

-- A whole day on a new box: what the orders and answers come to, that the frame at the end is as the journal then says, and
-- what holds throughout.
abbrev pub WholeDay : Type 0 → Layout → List ℕ → List Order → List Answer → List ℕ → Book → Type 0
WholeDay P l p os rs p' b =
    (j : Journal) × Day l unwritten p os rs j p' × (b ≡ j.book) × Throughout P l unwritten p os rs j p'
