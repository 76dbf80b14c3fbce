-- The journal of a box: kept from the calls on it, what they brought, what they answered and the rows that they wrote,
-- and from nothing else.
use Rattle.std.specs.Prelude.{◌≡◌, ℕ, ◌+◌, true, false, cond, List, [], ◌∷◌, ◌++◌, take, Ok, Err, Result, ◌==◌}
use Rattle.fault.specs.declared.kinds.BoxFault.{BoxFault}
use Rattle.plan.specs.declared.parts.Position.{Position}
use Rattle.plan.specs.Layout.{Layout}
use Rattle.row.specs.Row.{entries_of}
use Rattle.frame.specs.Book.{Book, fresh, laid, marked, opened_with, closed_at}
use Rattle.frame.specs.Calls.{Marking, Throwing, Opening, Releasing}
use Rattle.frame.specs.Tests.{refusal}
use Rattle.signal_box.specs.Turning.{Turning, Writes}

-- the rows handed out since the start or the last restart; what is written of the frame; and the serials of the slips
-- that are out
pub record Journal : Type 0 where
  pub rows : List (List ℕ)
  pub book : Book
  pub out : List ℕ

-- of a new box
abbrev pub unwritten : Journal
unwritten = record { rows = []; book = fresh; out = [] }

-- a call, with what it brought and what it answered; a turn with the space before and after, an opening with the serial
-- of its slip
pub data Event : Type 0 where
  Turned : List ℕ → List ℕ → Result ℕ BoxFault → Event
  Restarted : Event
  Thrown : ℕ → Position → Result (Unit {0}) BoxFault → Event
  Occupied : ℕ → Result (Unit {0}) BoxFault → Event
  Cleared : ℕ → Result (Unit {0}) BoxFault → Event
  Opened : List ℕ → Result ℕ BoxFault → Event
  Released : ℕ → Result (Unit {0}) BoxFault → Event

-- the serials without one of them
abbrev pub without : ℕ → List ℕ → List ℕ
without s [] = []
without s (x ∷ xs) = cond (x == s) xs (x ∷ without s xs)

abbrev pub with_book : Journal → Book → Journal
with_book j b = record { rows = j.rows; book = b; out = j.out }

-- what a call writes; a refused call writes nothing
abbrev pub after : Journal → Event → Journal
after j (Turned space space' (Ok n)) = record { rows = j.rows ++ entries_of (take n space') ∷ []; book = j.book; out = j.out }
after j (Turned space space' (Err f)) = j
after j Restarted = record { rows = []; book = j.book; out = j.out }
after j (Thrown c p (Ok u)) = with_book j (laid j.book c p)
after j (Thrown c p (Err f)) = j
after j (Occupied n (Ok u)) = with_book j (marked j.book n true)
after j (Occupied n (Err f)) = j
after j (Cleared n (Ok u)) = with_book j (marked j.book n false)
after j (Cleared n (Err f)) = j
after j (Opened s (Ok n)) = record { rows = j.rows; book = opened_with j.book n (entries_of s); out = j.out ++ n ∷ [] }
after j (Opened s (Err f)) = j
after j (Released n (Ok u)) = record { rows = j.rows; book = closed_at j.book n; out = without n j.out }
after j (Released n (Err f)) = j

-- an accepted opening answers the serial of one slip more than were given before
abbrev pub NextSerial : Journal → Result ℕ BoxFault → Type 0
NextSerial j (Ok n) = n ≡ j.book.given + 1
NextSerial j (Err f) = Unit {0}

-- the answer is the one that the journal before the call demands, by the plan and what the call brought
abbrev pub Demands : Layout → Journal → Event → Type 0
Demands l j (Turned space space' r) = Turning l j.rows space (refusal r) × Writes l j.rows space space' r
Demands l j Restarted = Unit {0}
Demands l j (Thrown c p r) = Throwing l j.book c (refusal r)
Demands l j (Occupied n r) = Marking l n (refusal r)
Demands l j (Cleared n r) = Marking l n (refusal r)
Demands l j (Opened s r) = Opening l j.book s (refusal r) × NextSerial j r
Demands l j (Released n r) = Releasing j.book n (refusal r)
