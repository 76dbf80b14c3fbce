-- Where the record of a component stands, and what kind it is, for each of the three sections.
use Rattle.std.proofs.Common.{◌≡◌, ℕ, ◌+◌, ◌-◌, ◌*◌, ◌<◌, List, get_or, ap, ◌∙◌, arith}
use Rattle.std.proofs.lemmas.Bool.{lt-ltb, le-ltb, cond-true, cond-false}
use Rattle.plan.specs.declared.parts.Kind.TheVariants.{Signal, Switch, Straight}
use Rattle.plan.specs.Letters.{direction_at}
use Rattle.file.specs.Contents.{signal_count, switches_at, switch_count, straights_at, place, kind_of}

pub signal_place : (s : List ℕ) (i : ℕ) → i < signal_count s → place s i ≡ 2 + 5 * i
signal_place s i h = cond-true _ _ _ (lt-ltb i (signal_count s) h)

pub switch_place : (s : List ℕ) (i : ℕ) → i < switch_count s → place s (signal_count s + i) ≡ switches_at s + 2 + 9 * i
switch_place s i h =
    let c = signal_count s + i in
    let e : switches_at s + 2 + 9 * (c - signal_count s) ≡ switches_at s + 2 + 9 * i = omega arith in
    cond-false _ _ _ (le-ltb c (signal_count s) (omega arith)) ∙ cond-true _ _ _ (lt-ltb c (signal_count s + switch_count s) (omega arith)) ∙ e

pub straight_place : (s : List ℕ) (i : ℕ) → place s (signal_count s + switch_count s + i) ≡ straights_at s + 2 + 4 * i
straight_place s i =
    let c = signal_count s + switch_count s + i in
    let e : straights_at s + 2 + 4 * (c - (signal_count s + switch_count s)) ≡ straights_at s + 2 + 4 * i = omega arith in
    cond-false _ _ _ (le-ltb c (signal_count s) (omega arith)) ∙ cond-false _ _ _ (le-ltb c (signal_count s + switch_count s) (omega arith)) ∙ e

pub signal_kind : (s : List ℕ) (i : ℕ) → i < signal_count s → kind_of s i ≡ Signal (direction_at (get_or s (2 + 5 * i + 4) 0))
signal_kind s i h = cond-true _ _ _ (lt-ltb i (signal_count s) h) ∙ ap (λ n. Signal (direction_at (get_or s (n + 4) 0))) (signal_place s i h)

pub switch_kind : (s : List ℕ) (i : ℕ) → i < switch_count s → kind_of s (signal_count s + i) ≡ Switch (direction_at (get_or s (switches_at s + 2 + 9 * i + 6) 0))
switch_kind s i h =
    let c = signal_count s + i in
    cond-false _ _ _ (le-ltb c (signal_count s) (omega arith)) ∙ cond-true _ _ _ (lt-ltb c (signal_count s + switch_count s) (omega arith))
    ∙ ap (λ n. Switch (direction_at (get_or s (n + 6) 0))) (switch_place s i h)

pub straight_kind : (s : List ℕ) (i : ℕ) → kind_of s (signal_count s + switch_count s + i) ≡ Straight
straight_kind s i =
    let c = signal_count s + switch_count s + i in
    cond-false _ _ _ (le-ltb c (signal_count s) (omega arith)) ∙ cond-false _ _ _ (le-ltb c (signal_count s + switch_count s) (omega arith))
