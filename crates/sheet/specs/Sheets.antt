-- What a sheet says, what each call on it answers, and what the call leaves behind.
use Rattle.std.specs.Prelude.{◌≡◌, ℕ, ◌+◌, Bool, cond, ◌&&◌, length, Some, None, Ok, Err, Result, nat_lt, slice_set}
use Rattle.fault.specs.declared.kinds.PlanFault.{PlanFault}
use Rattle.fault.specs.declared.kinds.PlanFault.TheVariants.{SheetFull, WrongLetter, NoSuchPart}
use Rattle.plan.specs.declared.parts.Kind.{Kind}
use Rattle.plan.specs.declared.parts.Side.{Side}
use Rattle.plan.specs.declared.parts.Port.{Port}
use Rattle.plan.specs.Layout.{Layout, port}
use Rattle.plan.specs.Letters.{is_letter}
use Rattle.sheet.specs.declared.sheet.Sheet.{Sheet}
use Rattle.sheet.specs.Records.{blank_component, put_in}
use Rattle.sheet.specs.Connections.{layout_of, connected, disconnected}
use Rattle.sheet.specs.Adding.{with_component}

abbrev pub plan_of : Sheet → Layout
plan_of s = layout_of s.records.now s.count

-- fewer than 512 components stand, and a record is free
abbrev pub has_room : Sheet → Bool
has_room s = nat_lt s.count 512 && nat_lt s.count (length s.records.now)

abbrev pub told_room : Sheet → Result (Unit {0}) PlanFault
told_room s = cond (has_room s) (Ok tt) (Err SheetFull)

abbrev pub told_straight : Sheet → Result ℕ PlanFault
told_straight s = cond (has_room s) (Ok s.count) (Err SheetFull)

abbrev pub told_signal : Sheet → ℕ → Result ℕ PlanFault
told_signal s letter = cond (has_room s) (cond (is_letter letter) (Ok s.count) (Err WrongLetter)) (Err SheetFull)

abbrev pub told_switch : Sheet → ℕ → ℕ → Result ℕ PlanFault
told_switch s letter section =
    cond (has_room s)
    (cond (is_letter letter)
    (cond (nat_lt section s.sections) (Ok s.count) (Err (NoSuchPart 0)))
    (Err WrongLetter))
    (Err SheetFull)

abbrev pub told_section : Sheet → Result ℕ PlanFault
told_section s = cond (nat_lt s.sections 512) (Ok s.sections) (Err SheetFull)

-- the lent space is the same space, and as long
pub record SameSpace (before after : Sheet) : Type 0 where
  pub held : after.records.ghost_name ≡ before.records.ghost_name
  pub size : length after.records.now ≡ length before.records.now

-- after an accepted call: the layout, and what every record holds

pub record ComponentAdded (before after : Sheet) (k : Kind) (section : ℕ) : Type 0 where
  pub layout : plan_of after ≡ with_component (plan_of before) k section
  pub blank : (d : Side) → (plan_of after).far (port before.count d) ≡ None
  pub records : after.records.now ≡ slice_set before.records.now before.count (blank_component k section)
  pub count : after.count ≡ before.count + 1
  pub sections : after.sections ≡ before.sections

pub record SectionAdded (before after : Sheet) : Type 0 where
  pub layout : plan_of after ≡ plan_of before
  pub records : after.records.now ≡ before.records.now
  pub count : after.count ≡ before.count
  pub sections : after.sections ≡ before.sections + 1

-- each of the two ports names the other
pub record Connected (before after : Sheet) (a b : Port) : Type 0 where
  pub layout : plan_of after ≡ connected (plan_of before) a b
  pub records : after.records.now ≡ put_in (put_in before.records.now a (Some b)) b (Some a)
  pub count : after.count ≡ before.count
  pub sections : after.sections ≡ before.sections

-- neither the port nor its far port names any
pub record Disconnected (before after : Sheet) (p : Port) : Type 0 where
  pub layout : plan_of after ≡ disconnected (plan_of before) p
  pub records : (q : Port) → (plan_of before).far p ≡ Some q → after.records.now ≡ put_in (put_in before.records.now p None) q None
  pub count : after.count ≡ before.count
  pub sections : after.sections ≡ before.sections
