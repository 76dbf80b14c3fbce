-- Where a path has come to.
use Rattle.std.proofs.Common.{◌≡◌, ℕ, ◌-◌, ◌/◌, ◌<◌, List, [], ◌∷◌, length, get_or, take, None, sym, subst, arith}
use Rattle.plan.specs.declared.parts.Direction.{Direction}
use Rattle.plan.specs.declared.parts.Kind.{Kind}
use Rattle.plan.specs.declared.parts.Kind.TheVariants.{Signal}
use Rattle.plan.specs.Layout.{Layout, Lawful}
use Rattle.route.specs.Paths.{heading, last_of, IsSignal, Ends}
use Rattle.route.specs.Growth.{Next, Begun}
use Rattle.route.specs.Steps.{SignalAt}
use Rattle.route.proofs.Following.{follows_to}

pub next_below : (l : Layout) → Lawful l → (q : List ℕ) (e : ℕ) → Next l q e → e / 4 < l.count
next_below l w [] e h = h.1
next_below l w (s ∷ q) e h = follows_to l w (heading l (s ∷ q)) (last_of (s ∷ q)) e h

pub begun_below : (l : Layout) → Lawful l → (q : List ℕ) → Begun l q → (i : ℕ) → i < length q → get_or q i 0 / 4 < l.count
begun_below l w q g i h = next_below l w (take i q) (get_or q i 0) (g i h).0

signal_is : (k : Kind) (d : Direction) → k ≡ Signal d → IsSignal k
signal_is k d e = let F : Kind → Type 0 = λ x. IsSignal x in subst F (sym e) tt

-- a path that does not end at a signal is no route
pub no_end : (l : Layout) → Lawful l → (q : List ℕ) → Begun l q → SignalAt l (last_of q / 4) None → Ends l q → ⊥
no_end l w q g none ends =
    let two = ends.0 in
    none (begun_below l w q g (length q - 1) (omega arith)) (signal_is (l.kind (last_of q / 4)) (heading l q) ends.1)
