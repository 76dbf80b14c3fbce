use Rattle.std.proofs.Common.{◌≡◌, Ok}
use Rattle.file.specs.Checks.{first_failing, each}
use Rattle.file.specs.Readings.{component_checks}
use Rattle.file.proofs.contents.FirstRead.read_components.Given as goal

abbrev pub invariant-loop-component : goal.invariant-loop-component
invariant-loop-component l = first_failing (each l.component (component_checks l.self.file.bytes.now)) ≡ Ok tt
