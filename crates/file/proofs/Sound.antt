-- The bytes of an accepted file are the file of a lawful layout: what they say.
use Rattle.std.proofs.Common.{◌≡◌, ℕ, ◌+◌, ◌*◌, ◌<◌, Bool, true, false, cond, not, ◌||◌, eqb, List, get_or, Some, None, Option, sym, refl, ap, ◌∙◌, arith}
use Rattle.std.proofs.lemmas.Bool.{lt-ltb, eqb-true, eqb-false, cond-true, and_parts, and_from, not-true}
use Rattle.numbers.specs.Stored.{number}
use Rattle.plan.specs.declared.parts.Direction.{Direction}
use Rattle.plan.specs.declared.parts.Direction.TheVariants.{East, West}
use Rattle.plan.specs.declared.parts.Side.{Side}
use Rattle.plan.specs.declared.parts.Side.TheVariants.{West as WestSide, East as EastSide, Branch}
use Rattle.plan.specs.declared.parts.Port.{Port}
use Rattle.plan.specs.Layout.{Lawful, is_switch, has_side, faces, opposite, port, same_direction}
use Rattle.plan.specs.Letters.{direction_at, is_letter}
use Rattle.file.specs.Contents.{signal_count, switches_at, switch_count, straights_at, straight_count, section_count, components, kind_of, port_code, port_of, field_at, stored, port_in, far_of, layout_of}
use Rattle.file.specs.FileOf.{far_code, letter_of, SignalAt, SwitchAt, StraightAt, Counts, FileWith, Connected, GoodFileOf}
use Rattle.file.proofs.Whole.{Whole}
use Rattle.file.proofs.PortCodes.{of_code, code_of}
use Rattle.file.proofs.Places.{signal_place, switch_place, straight_place, signal_kind, switch_kind, straight_kind}
use Rattle.file.proofs.Fields.{Named, Fields}

abbrev pub counts_of : List ℕ → Counts
counts_of s = record { signals = signal_count s; switches = switch_count s; straights = straight_count s; sections = section_count s }

-- what the test of a far port says
if_port : (b : Bool) (o : Option Port) (q : Port) → cond b o None ≡ Some q → (b ≡ true) × (o ≡ Some q)
if_port true o q h = (refl, h)
if_port false o q h = (cc, cc)

turned : (a b : Direction) → not (same_direction a b) ≡ true → b ≡ opposite a
turned East East h = cc
turned East West h = refl
turned West East h = refl
turned West West h = cc

unequal : (a b : ℕ) → not (eqb a b) ≡ true → a ≡ b → ⊥
unequal a b h = eqb-false a b (not-true (eqb a b) h)

letter_says : (b : ℕ) → is_letter b ≡ true → b ≡ letter_of (direction_at b)
letter_says b h =
    let by : (x y : Bool) → eqb b 69 ≡ x → eqb b 87 ≡ y → (x || y) ≡ true → b ≡ letter_of (cond x East West) =
    λ x y. elim x as (λ t. eqb b 69 ≡ t → eqb b 87 ≡ y → (t || y) ≡ true → b ≡ letter_of (cond t East West)) [
      | true ↦ λ e f g. eqb-true b 69 e
      | false ↦ λ e f g. eqb-true b 87 (f ∙ g)
    ] in
    by (eqb b 69) (eqb b 87) refl refl h

module _ (s : List ℕ) (w : Whole s) (f : Fields s) where
  joined : (p q : Port) → far_of s p ≡ Some q → Named s p q
  joined p q h = let b = if_port (port_in s p) (port_of (stored s p)) q h in (f.ports p b.0).named q b.1

  -- each of two connected ports stores the code of the other
  pub both_stored : (p q : Port) → far_of s p ≡ Some q → (stored s p ≡ port_code q) × (stored s q ≡ port_code p)
  both_stored p q h = (code_of (stored s p) q (if_port (port_in s p) (port_of (stored s p)) q h).1, (joined p q h).back)

  pub lawful : Lawful (layout_of s)
  lawful = record {
    few = w.few;
    sections = λ c l e. let h = f.sections c l e in let k = w.few_sections in omega arith;
    ports = λ p q h. (if_port (port_in s p) (port_of (stored s p)) q h).0;
    both_ways = λ p q h. let n = joined p q h in cond-true _ _ _ n.exists ∙ ap port_of n.back ∙ of_code p;
    opposed = λ p q h. turned (faces (layout_of s) p) (faces (layout_of s) q) (and_parts _ _ (joined p q h).opposite).0;
    apart = λ p q h. unequal p.component q.component (and_parts _ _ (joined p q h).opposite).1;
  }

  -- what is stored at a port's field
  port_stored : (p : Port) → port_in s p ≡ true → stored s p ≡ far_code (far_of s p)
  port_stored p e =
      let by : (o : Option Port) → port_of (stored s p) ≡ o → stored s p ≡ far_code o =
      λ o. elim o as (λ x. port_of (stored s p) ≡ x → stored s p ≡ far_code x) [
        | None ↦ λ h. (f.ports p e).unnamed h
        | Some q ↦ λ h. code_of (stored s p) q h
      ] in
      by (port_of (stored s p)) refl ∙ ap far_code (sym (cond-true _ _ _ e))

  at_place : (c : ℕ) (d : Side) (n : ℕ) → c < components s → has_side (kind_of s c) d ≡ true → n ≡ field_at s (port c d) → number s n ≡ far_code (far_of s (port c d))
  at_place c d n l h e = ap (number s) e ∙ port_stored (port c d) (and_from _ _ (lt-ltb c (components s) l) h)

  signal_at : (i : ℕ) → i < signal_count s → SignalAt s (layout_of s) (2 + 5 * i) i
  signal_at i l =
      let e = signal_place s i l in record {
        direction = direction_at (get_or s (2 + 5 * i + 4) 0);
        kind = signal_kind s i l;
        west = at_place i WestSide (2 + 5 * i) (omega arith) refl (omega arith);
        east = at_place i EastSide (2 + 5 * i + 2) (omega arith) refl (omega arith);
        letter = letter_says (get_or s (2 + 5 * i + 4) 0) (w.signal_letters i l);
      }

  switch_at : (i : ℕ) → i < switch_count s → SwitchAt s (layout_of s) (switches_at s + 2 + 9 * i) (signal_count s + i)
  switch_at i l =
      let at = switches_at s + 2 + 9 * i in
      let c = signal_count s + i in
      let e = switch_place s i l in record {
        direction = direction_at (get_or s (at + 6) 0);
        kind = switch_kind s i l;
        west = at_place c WestSide at (omega arith) refl (omega arith);
        east = at_place c EastSide (at + 2) (omega arith) refl (omega arith);
        branch = at_place c Branch (at + 4) (omega arith) (ap is_switch (switch_kind s i l)) (omega arith);
        letter = letter_says (get_or s (at + 6) 0) (w.switch_letters i l);
        section = ap (λ n. number s (n + 7)) (sym e);
      }

  straight_at : (i : ℕ) → i < straight_count s → StraightAt s (layout_of s) (straights_at s + 2 + 4 * i) (signal_count s + switch_count s + i)
  straight_at i l =
      let at = straights_at s + 2 + 4 * i in
      let c = signal_count s + switch_count s + i in
      let e = straight_place s i in record {
        kind = straight_kind s i;
        west = at_place c WestSide at (omega arith) refl (omega arith);
        east = at_place c EastSide (at + 2) (omega arith) refl (omega arith);
      }

  file_with : FileWith s (layout_of s) (counts_of s)
  unfolding signal_count switch_count straight_count section_count
  file_with = record {
    signal_count = refl;
    switch_count = refl;
    straight_count = refl;
    section_count = refl;
    whole = w.long;
    all = refl;
    signal = signal_at;
    switch = switch_at;
    straight = straight_at;
    member_count = λ k l. (f.members k l).1;
    belongs = f.sections;
    few_sections = w.few_sections;
    none_empty = λ k l. let a = (f.members k l).0 in let b = (f.members k l).1 in omega arith;
  }

  has_any : (c : ℕ) (d : Side) → is_switch (kind_of s c) ≡ true → has_side (kind_of s c) d ≡ true
  has_any c WestSide e = refl
  has_any c EastSide e = refl
  has_any c Branch e = e

  connected : Connected (layout_of s)
  connected c l e d h =
      let p = port c d in
      let i = and_from _ _ (lt-ltb c (components s) l) (has_any c d e) in
      (f.ports p i).filled e ((f.ports p i).unnamed (sym (cond-true (port_in s p) (port_of (stored s p)) None i) ∙ h))

  pub good : GoodFileOf s (layout_of s)
  good = (lawful, (counts_of s, file_with), connected)
