-- What can still be reached from the end of a path.
use Rattle.std.specs.Prelude.{◌≡◌, ℕ, ◌+◌, ◌-◌, ◌*◌, ◌/◌, ◌<◌, ◌≤◌, ◌⊎◌, List, ◌∷◌, ◌++◌, ◌≢◌}
use Rattle.plan.specs.declared.parts.Direction.{Direction}
use Rattle.plan.specs.declared.parts.Kind.TheVariants.{Signal}
use Rattle.plan.specs.Layout.{Layout}
use Rattle.sets.specs.declared.set.ComponentSet.{ComponentSet}
use Rattle.sets.specs.Members.{has, size}
use Rattle.route.specs.Paths.{Follows, Route}
use Rattle.search.specs.declared.flood.Flood.{Flood}

-- no route goes on below the path
abbrev pub Barren : Layout → List ℕ → Type 0
Barren l q = (e : ℕ) (t : List ℕ) → Route l (q ++ e ∷ t) → ⊥

-- no route goes on below the path with an entry under `g`
abbrev pub BarrenBelow : Layout → List ℕ → ℕ → Type 0
BarrenBelow l q g = (e : ℕ) (t : List ℕ) → e < g → Route l (q ++ e ∷ t) → ⊥

-- what comes next after the entry was seen
abbrev pub Covers : Layout → Direction → ℕ → ComponentSet → Type 0
Covers l d e seen = (e' : ℕ) → Follows l d e e' → has seen (e' / 4) ≡ 1

-- how much the flood has yet to do
abbrev pub to_do : Flood → ℕ
to_do f = 2 * (512 - size f.seen) + size f.waiting

-- the flood after what comes next after an entry was marked
pub record Marked (l : Layout) (d : Direction) (e : ℕ) (f f' : Flood) : Type 0 where
  pub covers : Covers l d e f'.seen
  pub keeps : (c : ℕ) → has f.seen c ≤ has f'.seen c
  pub waits : (c : ℕ) → has f.waiting c ≤ has f'.waiting c
  pub new_wait : (c : ℕ) → has f.seen c ≡ 0 → has f'.seen c ≡ 1 → has f'.waiting c ≡ 1
  pub less : to_do f' ≤ to_do f

-- the flood after it went on from a component that waited
pub record GoneOn (l : Layout) (d : Direction) (k : ℕ) (f f' : Flood) : Type 0 where
  pub keeps : (c : ℕ) → has f.seen c ≤ has f'.seen c
  pub waits : (c : ℕ) → (c ≢ k) → has f.waiting c ≤ has f'.waiting c
  pub new_wait : (c : ℕ) → has f.seen c ≡ 0 → has f'.seen c ≡ 1 → has f'.waiting c ≡ 1
  pub less : k < 512 → has f.waiting k ≡ 1 → to_do f' < to_do f
  pub covers : k < 512 → (e : ℕ) → e / 4 ≡ k → Covers l d e f'.seen

-- the flood has gone on from the component: it is no signal of the direction, and what comes next after it was seen
abbrev pub Past : Layout → Direction → ComponentSet → ℕ → Type 0
Past l d seen c = (c < l.count → l.kind c ≢ Signal d) × ((e : ℕ) → e / 4 ≡ c → Covers l d e seen)

-- what was seen and does not wait is a component that did not wait at the start, or the flood has gone on from it
pub record Settled (l : Layout) (d : Direction) (f f' : Flood) : Type 0 where
  pub keeps : (c : ℕ) → has f.seen c ≤ has f'.seen c
  pub past : (c : ℕ) → has f'.seen c ≡ 1 → has f'.waiting c ≡ 0 → ((has f.seen c ≡ 1) × (has f.waiting c ≡ 0)) ⊎ Past l d f'.seen c
