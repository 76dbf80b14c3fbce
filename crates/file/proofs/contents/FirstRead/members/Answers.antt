use Rattle.std.proofs.Common.{sym, arith, rules}
use Rattle.file.specs.Contents.{layout_of}
use Rattle.file.specs.Members.{belongs}
use Rattle.file.proofs.Tally.{tally_none, tally_more}
use Rattle.file.proofs.contents.FirstRead.members.Goals as goal

pub loop-component-init : goal.loop-component-init
loop-component-init c = (sym (tally_none (belongs (layout_of c.args.self.now.file.bytes.now) c.args.section)), omega arith)

pub loop-component-preserved : goal.loop-component-preserved
loop-component-preserved c =
    let e = tally_more c.loop-component.component (belongs (layout_of c.args.self.now.file.bytes.now) c.args.section) in
    search rules
