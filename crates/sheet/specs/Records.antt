-- The component records of a sheet, and what they say.
use Rattle.std.specs.Prelude.{ℕ, Bool, true, cond, List, None, Option, nat_lt, slice_index_or, slice_set}
use Rattle.plan.specs.declared.parts.Direction.TheVariants.{East}
use Rattle.plan.specs.declared.parts.Kind.{Kind}
use Rattle.plan.specs.declared.parts.Kind.TheVariants.{Signal, Straight}
use Rattle.plan.specs.declared.parts.Side.{Side}
use Rattle.plan.specs.declared.parts.Side.TheVariants.{West as WestSide, East as EastSide, Branch}
use Rattle.plan.specs.declared.parts.Port.{Port}
use Rattle.plan.specs.Layout.{Layout, is_switch}
use Rattle.sheet.specs.declared.component.Component.{Component}

-- a component whose ports are blank
abbrev pub blank_component : Kind → ℕ → Component
blank_component k s = record { kind = k; section = s; west = None; east = None; branch = None }

-- past the end: a record that names nothing
abbrev pub at : List Component → ℕ → Component
at rs c = slice_index_or rs c (blank_component (Signal East) 0)

-- what a record names as the far port of one of its sides
abbrev pub named_at : Component → Side → Option Port
named_at r WestSide = r.west
named_at r EastSide = r.east
named_at r Branch = r.branch

abbrev pub naming : Component → Side → Option Port → Component
naming r WestSide x = record { kind = r.kind; section = r.section; west = x; east = r.east; branch = r.branch }
naming r EastSide x = record { kind = r.kind; section = r.section; west = r.west; east = x; branch = r.branch }
naming r Branch x = record { kind = r.kind; section = r.section; west = r.west; east = r.east; branch = x }

unfoldable pub named : List Component → Port → Option Port
named rs p = named_at (at rs p.component) p.side

-- the records after the port p was made to name x: every other field and record as it was
unfoldable pub put_in : List Component → Port → Option Port → List Component
put_in rs p x = slice_set rs p.component (naming (at rs p.component) p.side x)

-- the first n records, as components whose ports are blank
abbrev pub kinds : List Component → ℕ → ℕ → Kind
kinds rs n c = cond (nat_lt c n) (at rs c).kind Straight

abbrev pub sections_of : List Component → ℕ → ℕ → ℕ
sections_of rs n c = cond (nat_lt c n) (at rs c).section 0

abbrev pub components_of : List Component → ℕ → Layout
components_of rs n = record { count = n; kind = kinds rs n; section = sections_of rs n; far = λ p. None }

-- a switch's point section is one of the s that were added
abbrev pub section_stands : Component → ℕ → Bool
section_stands r s = cond (is_switch r.kind) (nat_lt r.section s) true
