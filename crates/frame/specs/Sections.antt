-- Sections: what watches a component.
use Rattle.std.specs.Prelude.{◌≡◌, ℕ, ◌+◌, ◌<◌, Some, None, Option}
use Rattle.plan.specs.declared.parts.Kind.{Kind}
use Rattle.plan.specs.declared.parts.Kind.TheVariants.{Signal, Switch, Straight}
use Rattle.plan.specs.Layout.{Layout}

-- the section of a component of such a kind: a straight section is one itself, a switch has a point section, whose
-- number counts from 512; a signal has none
abbrev pub section_by : Kind → ℕ → ℕ → Option ℕ
section_by (Signal d) c s = None
section_by (Switch d) c s = Some (512 + s)
section_by Straight c s = Some c

-- the section `n` watches the component
abbrev pub Watches : Layout → ℕ → ℕ → Type 0
Watches l n c = (c < l.count) × (section_by (l.kind c) c (l.section c) ≡ Some n)

-- a section of the layout: one that watches a straight section or a switch
abbrev pub IsSection : Layout → ℕ → Type 0
IsSection l n = (c : ℕ) × Watches l n c

-- the section that watches the component, or that there is none
abbrev pub WatchedBy : Layout → ℕ → Option ℕ → Type 0
WatchedBy l c None = (n : ℕ) → Watches l n c → ⊥
WatchedBy l c (Some n) = Watches l n c
