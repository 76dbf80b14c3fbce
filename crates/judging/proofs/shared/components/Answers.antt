use Rattle.std.proofs.Common.{ap, ◌∙◌, arith}
use Rattle.sets.specs.Members.{joined}
use Rattle.judging.proofs.Gathered.{gathers_none, gathers_more}
use Rattle.judging.proofs.shared.components.Goals as goal

pub loop-e-init : goal.loop-e-init
loop-e-init c = gathers_none c.new-set.result c.new-set.ensures

pub loop-e-preserved : goal.loop-e-preserved
loop-e-preserved c =
    let i = c.loop-e.e-index in
    let small = c.as_slice-all.ensures.small i (omega arith) in
    gathers_more c.loop-e.set c.insert.new.self c.as_slice-all.result.now i c.loop-e.invariant (omega arith) (omega arith) (λ k. c.insert.ensures k ∙ ap (λ n. joined c.loop-e.set n k) (omega arith))
