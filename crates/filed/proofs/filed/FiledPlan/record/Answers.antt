use Rattle.std.proofs.Common.{arith}
use Rattle.plan.specs.declared.parts.Kind.TheVariants.{Signal, Switch, Straight}
use Rattle.filed.proofs.Fits.{fits}
use Rattle.filed.proofs.filed.FiledPlan.record.Goals as goal

pub cut-bytes-requires : goal.cut-bytes-requires
cut-bytes-requires c =
    let p = c.args.self.now in
    let f = fits p.contents.bytes.now p.accepted c.args.component (omega arith) (Signal c.in-Signal.field-0) c.in-Signal.ensures in
    omega arith

pub cut-bytes-requires-in-Switch : goal.cut-bytes-requires-in-Switch
cut-bytes-requires-in-Switch c =
    let p = c.args.self.now in
    let f = fits p.contents.bytes.now p.accepted c.args.component (omega arith) (Switch c.in-Switch.field-0) c.in-Switch.ensures in
    omega arith

pub cut-bytes-requires-in-Straight : goal.cut-bytes-requires-in-Straight
cut-bytes-requires-in-Straight c =
    let p = c.args.self.now in
    let f = fits p.contents.bytes.now p.accepted c.args.component (omega arith) Straight c.in-Straight.ensures in
    omega arith
