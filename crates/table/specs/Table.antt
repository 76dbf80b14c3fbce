-- The worked examples, one row each.
use Rattle.std.specs.Prelude.{ℕ, ◌+◌, List, [], ◌∷◌, ◌++◌, take, Ok, Err, slice_set}
use Rattle.std.specs.List.{AllByRecursion}
use Rattle.fault.specs.declared.kinds.FileFault.TheVariants.{CutOff, LeftOver, WrongLetter}
use Rattle.fault.specs.declared.kinds.PlanFault.TheVariants.{File, NotNamedBack, BlankPort}
use Rattle.fault.specs.declared.kinds.BoxFault.TheVariants.{ShortSpace, Drained, Conflict, OtherPosition}
use Rattle.plan.specs.declared.parts.Position.TheVariants.{Reverse}
use Rattle.signal_box.specs.Journal.{Event}
use Rattle.signal_box.specs.Journal.Event.{Opened, Thrown}
use Rattle.table.specs.Station.{one_switch, routes}
use Rattle.table.specs.Examples.{Example, Looks, HasRoutes, TurnRefused, TurnWrites, IsRoute, NoRouteAt, Share, Opens, Throws, Holds}

-- the rows 0 3N 1 and 0 3R 2
abbrev first_row : List ℕ
first_row = 3 ∷ 0 ∷ 0 ∷ 0 ∷ 13 ∷ 0 ∷ 4 ∷ 0 ∷ []

abbrev second_row : List ℕ
second_row = 3 ∷ 0 ∷ 0 ∷ 0 ∷ 14 ∷ 0 ∷ 8 ∷ 0 ∷ []

-- the file with a blank in the field at a place
abbrev blank_at : ℕ → List ℕ → List ℕ
blank_at p s = slice_set (slice_set s p 255) (p + 1) 255

abbrev pub file_examples : List Example
file_examples =
    Looks one_switch (Ok tt)
    ∷ Looks (take 33 one_switch) (Err (File (CutOff 32)))
    ∷ Looks (one_switch ++ 0 ∷ []) (Err (File (LeftOver 34)))
    ∷ Looks (slice_set one_switch 6 0) (Err (File (WrongLetter 6)))
    ∷ Looks (blank_at 7 one_switch) (Err (NotNamedBack 21))
    ∷ Looks (blank_at 12 (blank_at 23 one_switch)) (Err (BlankPort 23))
    ∷ []

abbrev pub register_examples : List Example
register_examples =
    HasRoutes routes
    ∷ TurnRefused 0 7 ShortSpace
    ∷ TurnWrites 0 first_row
    ∷ TurnWrites 1 second_row
    ∷ TurnRefused 2 7 Drained
    ∷ []

-- judged besides the first route: 0 3N 2, 0 3N and 3N 1
abbrev pub row_examples : List Example
row_examples =
    IsRoute first_row
    ∷ NoRouteAt (3 ∷ 0 ∷ 0 ∷ 0 ∷ 13 ∷ 0 ∷ 8 ∷ 0 ∷ []) 2
    ∷ NoRouteAt (2 ∷ 0 ∷ 0 ∷ 0 ∷ 13 ∷ 0 ∷ []) 2
    ∷ NoRouteAt (2 ∷ 0 ∷ 13 ∷ 0 ∷ 4 ∷ 0 ∷ []) 0
    ∷ Share first_row second_row 2
    ∷ []

-- the calls of the last examples
abbrev thrown : Event
thrown = Thrown 3 Reverse (Ok tt)

abbrev opened : Event
opened = Opened second_row (Ok 1)

-- the second row wants the switch reverse; thrown, it gives slip 1; the first row then has components in common with it
abbrev pub box_examples : List Example
box_examples =
    Opens [] second_row (Err OtherPosition)
    ∷ Throws [] 3 Reverse (Ok tt)
    ∷ Opens (thrown ∷ []) second_row (Ok 1)
    ∷ Opens (thrown ∷ opened ∷ []) first_row (Err Conflict)
    ∷ []

abbrev pub table : List Example
table = file_examples ++ (register_examples ++ (row_examples ++ box_examples))

unfoldable pub WorkedExamples : Type 0
WorkedExamples = AllByRecursion Holds table
