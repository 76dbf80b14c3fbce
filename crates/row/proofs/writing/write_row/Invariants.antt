use Rattle.std.proofs.Common.{◌≡◌, take}
use Rattle.row.specs.Put.{put}
use Rattle.row.specs.Row.{words}
use Rattle.row.proofs.writing.write_row.Given as goal

abbrev pub invariant-loop-i : goal.invariant-loop-i
invariant-loop-i l = l.space ≡ put l.initial.space 2 (words (take l.i l.row))
