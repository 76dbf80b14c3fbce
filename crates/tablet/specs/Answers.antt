-- Results of the library as plain numbers: all 0 where a call accepts, else the layer's number and what the table of
-- refusals says.
use Rattle.std.specs.Prelude.{ℕ, Ok, Err, Result}
use Rattle.fault.specs.Table.{plan_told, box_told}
use Rattle.fault.specs.declared.kinds.Layer.{Layer}
use Rattle.fault.specs.declared.kinds.Layer.TheVariants.{File, Plan, Box}
use Rattle.fault.specs.declared.kinds.Told.{Told}
use Rattle.fault.specs.declared.kinds.PlanFault.{PlanFault}
use Rattle.fault.specs.declared.kinds.BoxFault.{BoxFault}
use Rattle.tablet.specs.declared.answers.Answer.{Answer}
use Rattle.tablet.specs.declared.answers.Counted.{Counted}

abbrev pub layer_number : Layer → ℕ
layer_number File = 1
layer_number Plan = 2
layer_number Box = 3

abbrev pub accepted : Answer
accepted = record { layer = 0; number = 0; place = 0 }

abbrev pub refused : Told → Answer
refused t = record { layer = layer_number t.layer; number = t.number; place = t.place }

abbrev pub looked : Result (Unit {0}) PlanFault → Answer
looked (Ok u) = accepted
looked (Err e) = refused (plan_told e)

abbrev pub judged : Result (Unit {0}) BoxFault → Answer
judged (Ok u) = accepted
judged (Err e) = refused (box_told e)

abbrev pub counted : Result ℕ BoxFault → Counted
counted (Ok n) = record { answer = accepted; count = n }
counted (Err e) = record { answer = refused (box_told e); count = 0 }
