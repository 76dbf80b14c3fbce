use Rattle.sheet.proofs.Puts.{put_is}
use Rattle.sheet.proofs.sheet.Sheet.put.Goals as goal

pub returns-clause-records : goal.returns-clause-records
returns-clause-records c = put_is _ _ c.args.port c.args.far _ c.from-component.ensures c.naming.ensures
