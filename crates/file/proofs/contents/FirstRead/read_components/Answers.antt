use Rattle.std.proofs.Common.{sym, arith, rules}
use Rattle.file.specs.Contents.{components}
use Rattle.file.specs.Readings.{component_checks}
use Rattle.file.proofs.Checks.{each_none, each_more, each_stop}
use Rattle.file.proofs.contents.FirstRead.read_components.Goals as goal

pub loop-component-init : goal.loop-component-init
loop-component-init c = each_none (component_checks c.args.self.now.file.bytes.now)

pub returns-in_err-read_component : goal.returns-in_err-read_component
returns-in_err-read_component c =
    let s = c.args.self.now.file.bytes.now in
    let stop = each_stop (components s) c.loop-component.component (component_checks s) c.in_err-read_component.field-0.0 (omega arith) c.loop-component.invariant (sym c.in_err-read_component.ensures) in
    search rules

pub loop-component-preserved : goal.loop-component-preserved
loop-component-preserved c = each_more c.loop-component.component (component_checks c.args.self.now.file.bytes.now) c.loop-component.invariant (sym c.in_ok-read_component.ensures)
