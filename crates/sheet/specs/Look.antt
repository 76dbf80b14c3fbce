-- Looking over a sheet.
use Rattle.std.specs.Prelude.{◌≡◌, ℕ, ◌<◌, Bool, true, false, cond, ◌&&◌, is_some, Some, None, Ok, Err, Option, Result, ◌==◌}
use Rattle.fault.specs.declared.kinds.PlanFault.{PlanFault}
use Rattle.fault.specs.declared.kinds.PlanFault.TheVariants.{BlankPort, WrongSwitchCount}
use Rattle.plan.specs.declared.parts.Kind.{Kind}
use Rattle.plan.specs.declared.parts.Side.TheVariants.{West as WestSide, East as EastSide, Branch}
use Rattle.plan.specs.Layout.{Layout, is_switch, port}

-- a component that is a switch has no blank port
abbrev pub is_whole : Layout → ℕ → Bool
is_whole l c =
    cond (is_switch (l.kind c))
    (is_some (l.far (port c WestSide)) && (is_some (l.far (port c EastSide)) && is_some (l.far (port c Branch))))
    true

-- a component of this kind and point section is a switch of the point section s
abbrev pub belongs : Kind → ℕ → ℕ → Bool
belongs k section s = is_switch k && section == s

abbrev pub HasSwitch : Layout → ℕ → Type 0
HasSwitch l s = (c : ℕ) × ((c < l.count) × (belongs (l.kind c) (l.section c) s ≡ true))

abbrev pub NoSwitch : Layout → ℕ → Type 0
NoSwitch l s = (c : ℕ) → c < l.count → belongs (l.kind c) (l.section c) s ≡ false

abbrev pub SwitchTold : Layout → ℕ → Bool → Type 0
SwitchTold l s true = HasSwitch l s
SwitchTold l s false = NoSwitch l s

-- the first number below n that is bad, where all before it are good; none where all are
abbrev pub FirstBad : ℕ → (ℕ → Type 0) → (ℕ → Type 0) → Option ℕ → Type 0
FirstBad n Good Bad None = (k : ℕ) → k < n → Good k
FirstBad n Good Bad (Some i) = (i < n) × Bad i × ((k : ℕ) → k < i → Good k)

-- no switch has a blank port, and each of the s point sections has a switch
pub record Whole (l : Layout) (s : ℕ) : Type 0 where
  pub switches : (c : ℕ) → c < l.count → is_whole l c ≡ true
  pub sections : (k : ℕ) → k < s → HasSwitch l k

pub record FirstBlank (l : Layout) (c : ℕ) : Type 0 where
  pub stands : c < l.count
  pub blank : is_whole l c ≡ false
  pub before : (k : ℕ) → k < c → is_whole l k ≡ true

pub record FirstEmpty (l : Layout) (s at : ℕ) : Type 0 where
  pub switches : (c : ℕ) → c < l.count → is_whole l c ≡ true
  pub stands : at < s
  pub empty : NoSwitch l at
  pub before : (k : ℕ) → k < at → HasSwitch l k

-- the first switch with a blank port, then the first point section without a switch
abbrev pub Looked : Layout → ℕ → Result (Unit {0}) PlanFault → Type 0
Looked l s (Ok u) = Whole l s
Looked l s (Err (BlankPort c)) = FirstBlank l c
Looked l s (Err (WrongSwitchCount k)) = FirstEmpty l s k
Looked l s (Err _) = ⊥

-- no sheet has two answers
abbrev pub OneLook : Type 0
OneLook = (l : Layout) (s : ℕ) (r q : Result (Unit {0}) PlanFault) → Looked l s r → Looked l s q → r ≡ q
