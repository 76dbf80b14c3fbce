-- The table of refusals: what each fault tells.  A fault that is carried tells what it told below.
use Rattle.std.specs.Prelude.{ℕ}
use Rattle.fault.specs.declared.kinds.Layer.{Layer}
use Rattle.fault.specs.declared.kinds.Layer.TheVariants.{File as FileLayer, Plan as PlanLayer, Box as BoxLayer}
use Rattle.fault.specs.declared.kinds.Told.{Told}
use Rattle.fault.specs.declared.kinds.FileFault.{FileFault}
use Rattle.fault.specs.declared.kinds.FileFault.TheVariants.{CutOff, LeftOver, TooMany, WrongLetter}
use Rattle.fault.specs.declared.kinds.PlanFault.{PlanFault}
use Rattle.fault.specs.declared.kinds.PlanFault.TheVariants.{File, SheetFull, WrongLetter as SheetLetter, NoSuchPart, NotOpposed, NotNamedBack, AlreadyConnected, BlankPort, WrongSwitchCount}
use Rattle.fault.specs.declared.kinds.BoxFault.{BoxFault}
use Rattle.fault.specs.declared.kinds.BoxFault.TheVariants.{Plan, NoSuchSection, ShortSpace, Drained, RowsSpent, NotARow, NoRoute, Conflict, OtherPosition, Occupied, FrameFull, SlipsSpent, UnknownSlip}

abbrev pub says : Layer → ℕ → ℕ → Told
says l n p = record { layer = l; number = n; place = p }

abbrev pub file_told : FileFault → Told
file_told (CutOff p) = says FileLayer 1 p
file_told (LeftOver p) = says FileLayer 2 p
file_told (TooMany p) = says FileLayer 3 p
file_told (WrongLetter p) = says FileLayer 4 p

abbrev pub plan_told : PlanFault → Told
plan_told (File e) = file_told e
plan_told SheetFull = says PlanLayer 3 0
plan_told SheetLetter = says PlanLayer 4 0
plan_told (NoSuchPart p) = says PlanLayer 5 p
plan_told (NotOpposed p) = says PlanLayer 6 p
plan_told (NotNamedBack p) = says PlanLayer 7 p
plan_told AlreadyConnected = says PlanLayer 8 0
plan_told (BlankPort p) = says PlanLayer 9 p
plan_told (WrongSwitchCount p) = says PlanLayer 10 p

abbrev pub box_told : BoxFault → Told
box_told (Plan e) = plan_told e
box_told NoSuchSection = says BoxLayer 5 0
box_told ShortSpace = says BoxLayer 11 0
box_told Drained = says BoxLayer 12 0
box_told RowsSpent = says BoxLayer 13 0
box_told NotARow = says BoxLayer 14 0
box_told (NoRoute p) = says BoxLayer 15 p
box_told Conflict = says BoxLayer 16 0
box_told OtherPosition = says BoxLayer 17 0
box_told Occupied = says BoxLayer 18 0
box_told FrameFull = says BoxLayer 19 0
box_told SlipsSpent = says BoxLayer 20 0
box_told UnknownSlip = says BoxLayer 21 0
