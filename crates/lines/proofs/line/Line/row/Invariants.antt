use Rattle.std.proofs.Common.{take}
use Rattle.lines.specs.Written.{Written}
use Rattle.lines.proofs.Pairs.{spaced}
use Rattle.lines.proofs.line.Line.row.Given as goal

abbrev pub invariant-loop-pair : goal.invariant-loop-pair
invariant-loop-pair l = Written l.initial.self l.self (spaced (take l.pair-index l.front))
