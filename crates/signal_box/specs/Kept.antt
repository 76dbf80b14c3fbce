-- A box is as a journal says.
use Rattle.std.specs.Prelude.{◌≡◌}
use Rattle.plan.specs.Layout.{Layout}
use Rattle.register.specs.Handed.{Handed}
use Rattle.frame.specs.View.{view}
use Rattle.signal_box.specs.declared.signal_box.SignalBox.{SignalBox}
use Rattle.signal_box.specs.Journal.{Journal, Event, after, Demands}
use Rattle.signal_box.specs.Safety.{Safe}

-- switches, sections, open rows and slips given are the journal's; the rows of the journal are the first routes, and the
-- register stands before the next; and the open routes are safe
pub record Kept {P : Type 0} (l : Layout) (j : Journal) (x : SignalBox P) : Type 0 where
  pub book : view x.frame ≡ j.book
  pub handed : Handed l j.rows x.register
  pub safe : Safe l j.book j.out

-- a call answered as the journal demands, and the box is as the journal says with that call
pub record Noted {P : Type 0} (l : Layout) (j : Journal) (e : Event) (x : SignalBox P) : Type 0 where
  pub demanded : Demands l j e
  pub kept : Kept l (after j e) x

-- A call that makes one box of another: the plan stays, and for every journal that the box kept before, the call is noted.
pub record Notes {P : Type 0} (layout : P → Layout) (x : SignalBox P) (e : Event) (y : SignalBox P) : Type 0 where
  pub plan : y.register.plan ≡ x.register.plan
  pub noted : (j : Journal) → Kept (layout x.register.plan) j x → Noted (layout x.register.plan) j e y
