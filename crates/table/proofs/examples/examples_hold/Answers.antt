use Rattle.std.proofs.Common.{refl}
use Rattle.table.proofs.Checked.{worked_examples}
use Rattle.table.proofs.examples.examples_hold.Goals as goal

pub returns : goal.returns
returns c = record { count = refl; examples = worked_examples }
