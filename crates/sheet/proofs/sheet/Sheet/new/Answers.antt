use Rattle.sheet.proofs.Growth.{empty_drawn}
use Rattle.sheet.proofs.sheet.Sheet.new.Goals as goal

pub returns-clause-layout : goal.returns-clause-layout
returns-clause-layout c = empty_drawn c.args.space.now
