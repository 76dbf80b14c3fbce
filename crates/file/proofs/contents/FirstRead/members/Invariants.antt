use Rattle.std.proofs.Common.{◌≡◌, ◌≤◌}
use Rattle.file.specs.Contents.{layout_of}
use Rattle.file.specs.Members.{tally, belongs}
use Rattle.file.proofs.contents.FirstRead.members.Given as goal

abbrev pub invariant-loop-component : goal.invariant-loop-component
invariant-loop-component l = (l.count ≡ tally l.component (belongs (layout_of l.self.file.bytes.now) l.section)) × (l.count ≤ l.component)
