-- Answers that hold slips, as a journal has them.
use Rattle.std.specs.Prelude.{ℕ, Ok, Err, Result}
use Rattle.fault.specs.declared.kinds.BoxFault.{BoxFault}
use Rattle.frame.specs.declared.slip.Slip.{Slip}

-- the serial of the slip that an opening gave
abbrev pub serial_given : Result Slip BoxFault → Result ℕ BoxFault
serial_given (Ok s) = Ok s.serial
serial_given (Err f) = Err f

-- the answer of a release, leaving aside the slip that it hands back
abbrev pub unkept : Result (Unit {0}) (BoxFault × Slip) → Result (Unit {0}) BoxFault
unkept (Ok u) = Ok u
unkept (Err y) = Err y.0
