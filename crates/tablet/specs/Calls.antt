-- What the calls answer, where it takes more than an equation.
use Rattle.std.specs.Prelude.{◌≡◌, ℕ, List, Result}
use Rattle.fault.specs.declared.kinds.BoxFault.{BoxFault}
use Rattle.plan.specs.Layout.{Layout}
use Rattle.file.specs.FileOf.{GoodFileOf}
use Rattle.judging.specs.Judged.{Judged}
use Rattle.tablet.specs.declared.answers.Answer.{Answer}
use Rattle.tablet.specs.Answers.{accepted, judged}

-- A file is accepted exactly where it is the file of a lawful layout whose switches are connected at every port.
abbrev pub AcceptsExactly : List ℕ → Answer → Type 0
AcceptsExactly s r = (r ≡ accepted → ((l : Layout) × GoodFileOf s l)) × (((l : Layout) × GoodFileOf s l) → r ≡ accepted)

-- the answer is that of a judgement of the row over the layout
abbrev pub Judges : Layout → List ℕ → Answer → Type 0
Judges l s r = (e : Result (Unit {0}) BoxFault) × Judged l s e × (r ≡ judged e)
