-- The file of a lawful layout whose switches are connected passes every check.
use Rattle.std.proofs.Common.{◌≡◌, ℕ, ◌+◌, ◌-◌, ◌*◌, ◌<◌, Bool, true, false, not, ◌&&◌, eqb, ltb, List, Some, None, Option, sym, refl, ap, ◌∙◌, subst, inl, inr, arith}
use Rattle.std.proofs.lemmas.Bool.{ltb-true, lt-ltb, ne_eqb, cases_lt, and_parts, and_from, not_from_false}
use Rattle.numbers.specs.Stored.{number}
use Rattle.plan.specs.declared.parts.Direction.{Direction}
use Rattle.plan.specs.declared.parts.Direction.TheVariants.{East, West}
use Rattle.plan.specs.declared.parts.Kind.{Kind}
use Rattle.plan.specs.declared.parts.Kind.TheVariants.{Signal, Switch, Straight}
use Rattle.plan.specs.declared.parts.Side.{Side}
use Rattle.plan.specs.declared.parts.Side.TheVariants.{West as WestSide, East as EastSide, Branch}
use Rattle.plan.specs.declared.parts.Port.{Port}
use Rattle.plan.specs.Layout.{Layout, Lawful, is_switch, is_port, has_side, side_faces, faces, opposite, port, same_direction}
use Rattle.plan.proofs.Ports.{far_port}
use Rattle.plan.specs.Letters.{direction_at, is_letter}
use Rattle.file.specs.Contents.{signal_count, switches_at, switch_count, straights_at, straight_count, components, kind_of, section_of, port_of, field_at, stored, port_in, layout_of}
use Rattle.file.specs.Members.{tally, belongs, members}
use Rattle.file.specs.FileOf.{far_code, letter_of, FileWith, Connected}
use Rattle.file.proofs.Tally.{tally_same}
use Rattle.file.proofs.Whole.{Whole}
use Rattle.file.proofs.PortCodes.{of_far, not_blank}
use Rattle.file.proofs.Places.{signal_place, switch_place, straight_place, signal_kind, switch_kind, straight_kind}
use Rattle.file.proofs.Fields.{Named, Field, Fields}
use Rattle.file.proofs.Sound.{counts_of}

letter_direction : (d : Direction) → direction_at (letter_of d) ≡ d
letter_direction East = refl
letter_direction West = refl

is_a_letter : (b : ℕ) (d : Direction) → b ≡ letter_of d → is_letter b ≡ true
is_a_letter b d e = ap is_letter e ∙ elim d as (λ x. is_letter (letter_of x) ≡ true) [ East ↦ refl | West ↦ refl ]

turned_apart : (a b : Direction) → b ≡ opposite a → not (same_direction a b) ≡ true
turned_apart East b h = ap (λ x. not (same_direction East x)) h
turned_apart West b h = ap (λ x. not (same_direction West x)) h

-- what holds in each of the three sections holds of every component
pub by_section : (s : List ℕ) (P : ℕ → Type 0) → ((i : ℕ) → i < signal_count s → P i) → ((i : ℕ) → i < switch_count s → P (signal_count s + i)) → ((i : ℕ) → i < straight_count s → P (signal_count s + switch_count s + i)) → (c : ℕ) → c < components s → P c
by_section s P f g h c l =
    elim (cases_lt c (signal_count s)) [
      | inl k ↦ f c k
      | inr k ↦ elim (cases_lt c (signal_count s + switch_count s)) [
        | inl m ↦ let e : signal_count s + (c - signal_count s) ≡ c = omega arith in subst P e (g (c - signal_count s) (omega arith))
        | inr m ↦ let e : signal_count s + switch_count s + (c - (signal_count s + switch_count s)) ≡ c = omega arith in subst P e (h (c - (signal_count s + switch_count s)) (omega arith))
      ]
    ]

no_switch : (k : Kind) (d : Direction) → k ≡ Signal d → is_switch k ≡ true → ⊥
no_switch k d e h = let a : is_switch k ≡ false = ap is_switch e in let z : ◌≡◌ {A = ℕ} 0 1 = cc in omega arith

not_straight : (k : Kind) → k ≡ Straight → is_switch k ≡ true → ⊥
not_straight k e h = let a : is_switch k ≡ false = ap is_switch e in let z : ◌≡◌ {A = ℕ} 0 1 = cc in omega arith

module _ (s : List ℕ) (l : Layout) (w : Lawful l) (f : FileWith s l (counts_of s)) (full : Connected l) where
  kinds : (c : ℕ) → c < components s → kind_of s c ≡ l.kind c
  kinds = by_section s (λ c. kind_of s c ≡ l.kind c)
      (λ i h. let r = f.signal i h in signal_kind s i h ∙ ap (λ b. Signal (direction_at b)) r.letter ∙ ap Signal (letter_direction r.direction) ∙ sym r.kind)
      (λ i h. let r = f.switch i h in switch_kind s i h ∙ ap (λ b. Switch (direction_at b)) r.letter ∙ ap Switch (letter_direction r.direction) ∙ sym r.kind)
      (λ i h. straight_kind s i ∙ sym (f.straight i h).kind)

  at : (p : Port) (n : ℕ) → field_at s p ≡ n → number s n ≡ far_code (l.far p) → stored s p ≡ far_code (l.far p)
  at p n e h = ap (number s) e ∙ h

  signal_stored : (i : ℕ) → i < signal_count s → (d : Side) → has_side (kind_of s i) d ≡ true → stored s (port i d) ≡ far_code (l.far (port i d))
  signal_stored i h WestSide e = let q = signal_place s i h in at (port i WestSide) (2 + 5 * i) (omega arith) (f.signal i h).west
  signal_stored i h EastSide e = let q = signal_place s i h in at (port i EastSide) (2 + 5 * i + 2) (omega arith) (f.signal i h).east
  signal_stored i h Branch e = elim (no_switch (kind_of s i) _ (signal_kind s i h) e) [ ]

  switch_stored : (i : ℕ) → i < switch_count s → (d : Side) → has_side (kind_of s (signal_count s + i)) d ≡ true → stored s (port (signal_count s + i) d) ≡ far_code (l.far (port (signal_count s + i) d))
  switch_stored i h WestSide e = let q = switch_place s i h in at (port (signal_count s + i) WestSide) (switches_at s + 2 + 9 * i) (omega arith) (f.switch i h).west
  switch_stored i h EastSide e = let q = switch_place s i h in at (port (signal_count s + i) EastSide) (switches_at s + 2 + 9 * i + 2) (omega arith) (f.switch i h).east
  switch_stored i h Branch e = let q = switch_place s i h in at (port (signal_count s + i) Branch) (switches_at s + 2 + 9 * i + 4) (omega arith) (f.switch i h).branch

  straight_stored : (i : ℕ) → i < straight_count s → (d : Side) → has_side (kind_of s (signal_count s + switch_count s + i)) d ≡ true → stored s (port (signal_count s + switch_count s + i) d) ≡ far_code (l.far (port (signal_count s + switch_count s + i) d))
  straight_stored i h WestSide e = let q = straight_place s i in at (port (signal_count s + switch_count s + i) WestSide) (straights_at s + 2 + 4 * i) (omega arith) (f.straight i h).west
  straight_stored i h EastSide e = let q = straight_place s i in at (port (signal_count s + switch_count s + i) EastSide) (straights_at s + 2 + 4 * i + 2) (omega arith) (f.straight i h).east
  straight_stored i h Branch e = elim (not_straight (kind_of s (signal_count s + switch_count s + i)) (straight_kind s i) e) [ ]

  parts : (p : Port) → port_in s p ≡ true → (p.component < components s) × (has_side (kind_of s p.component) p.side ≡ true)
  parts p e = let a = and_parts (ltb p.component (components s)) (has_side (kind_of s p.component) p.side) e in (ltb-true p.component (components s) a.0, a.1)

  port_stored : (p : Port) → port_in s p ≡ true → stored s p ≡ far_code (l.far p)
  port_stored p e =
      by_section s (λ c. (d : Side) → has_side (kind_of s c) d ≡ true → stored s (port c d) ≡ far_code (l.far (port c d))) signal_stored switch_stored straight_stored p.component (parts p e).0 p.side (parts p e).1

  section_stored : (c : ℕ) → c < components s → is_switch (kind_of s c) ≡ true → section_of s c ≡ l.section c
  section_stored = by_section s (λ c. is_switch (kind_of s c) ≡ true → section_of s c ≡ l.section c)
      (λ i h e. elim (no_switch (kind_of s i) _ (signal_kind s i h) e) [ ])
      (λ i h e. ap (λ n. number s (n + 7)) (switch_place s i h) ∙ (f.switch i h).section)
      (λ i h e. elim (not_straight (kind_of s (signal_count s + switch_count s + i)) (straight_kind s i) e) [ ])

  -- a port of the layout is a port of the file
  port_here : (p : Port) → is_port l p ≡ true → port_in s p ≡ true
  port_here p e =
      let a = and_parts (ltb p.component l.count) (has_side (l.kind p.component) p.side) e in
      let b = ltb-true p.component l.count a.0 in
      let n = f.all in
      let c : p.component < components s = omega arith in
      and_from _ _ (lt-ltb p.component (components s) c) (ap (λ k. has_side k p.side) (kinds p.component c) ∙ a.1)

  same_faces : (p : Port) → p.component < components s → faces (layout_of s) p ≡ faces l p
  same_faces p h = ap (λ k. side_faces k p.side) (kinds p.component h)

  named : (p q : Port) → port_in s p ≡ true → l.far p ≡ Some q → Named s p q
  named p q e h =
      let here = port_here q (far_port l w p q h) in
      let turn = same_faces q (parts q here).0 ∙ w.opposed p q h ∙ ap opposite (sym (same_faces p (parts p e).0)) in record {
        exists = here;
        opposite = and_from _ _ (turned_apart (faces (layout_of s) p) (faces (layout_of s) q) turn) (not_from_false _ (ne_eqb p.component q.component (w.apart p q h)));
        back = port_stored q here ∙ ap far_code (w.both_ways p q h);
      }

  blank_none : (o : Option Port) → far_code o ≡ 65535 → o ≡ None
  blank_none None h = refl
  blank_none (Some q) h = elim (not_blank q h) [ ]

  field : (p : Port) → port_in s p ≡ true → Field s p
  field p e =
      let h = parts p e in
      let n = f.all in
      let far : port_of (stored s p) ≡ l.far p = ap port_of (port_stored p e) ∙ of_far (l.far p) in record {
        filled = λ k b. full p.component (omega (arith, h.0)) (sym (ap is_switch (kinds p.component h.0)) ∙ k) p.side (blank_none (l.far p) (sym (port_stored p e) ∙ b));
        named = λ q k. named p q e (sym far ∙ k);
        unnamed = λ k. port_stored p e ∙ ap far_code (sym far ∙ k);
      }

  same_belongs : (k c : ℕ) → c < components s → belongs (layout_of s) k c ≡ belongs l k c
  same_belongs k c h =
      let by : (b : Bool) → is_switch (kind_of s c) ≡ b → (b && eqb (section_of s c) k) ≡ (b && eqb (l.section c) k) =
      λ b. elim b as (λ t. is_switch (kind_of s c) ≡ t → (t && eqb (section_of s c) k) ≡ (t && eqb (l.section c) k)) [
        | true ↦ λ e. ap (λ x. eqb x k) (section_stored c h e)
        | false ↦ λ e. refl
      ] in
      by (is_switch (kind_of s c)) refl ∙ ap (λ x. is_switch x && eqb (l.section c) k) (kinds c h)

  same_members : (k : ℕ) → members (layout_of s) k ≡ members l k
  same_members k = tally_same (components s) (belongs (layout_of s) k) (belongs l k) (same_belongs k) ∙ ap (λ n. tally n (belongs l k)) (sym f.all)

  pub fields : Fields s
  fields = record {
    ports = field;
    sections = λ c h e.
        let n = f.all in
        let m = section_stored c h e in
        let k = f.belongs c (omega arith) (sym (ap is_switch (kinds c h)) ∙ e) in
        omega arith;
    members = λ k h.
        let n = f.member_count k h in
        let m = f.none_empty k h in
        ((λ z. omega arith), n ∙ sym (same_members k));
  }

  pub whole : Whole s
  whole = record {
    long = f.whole;
    few = let n = f.all in let m = w.few in omega arith;
    few_sections = f.few_sections;
    signal_letters = λ i h. is_a_letter _ (f.signal i h).direction (f.signal i h).letter;
    switch_letters = λ i h. is_a_letter _ (f.switch i h).direction (f.switch i h).letter;
  }
