-- What the first reading finds: the file is as long as its counts say, no more than 512 of each are counted, and the
-- letters are letters.
use Rattle.std.proofs.Common.{◌≡◌, ℕ, zero, suc, ◌+◌, ◌*◌, ◌<◌, ◌≤◌, true, leb, List, ◌++◌, length, get_or, refl, arith}
use Rattle.std.proofs.lemmas.Bool.{leb-true, le-leb}
use Rattle.plan.specs.Letters.{is_letter}
use Rattle.file.specs.declared.sorts.Sort.{Sort}
use Rattle.file.specs.declared.sorts.Sort.TheVariants.{Signal, Switch, Straight, PointSection}
use Rattle.file.specs.Contents.{signal_count, switches_at, switch_count, straights_at, straight_count, sections_at, section_count, end_of, components}
use Rattle.file.specs.Readings.{size, letter_in, letter_checks, nth_record, section_checks, signal_section, switch_section, straight_section, point_sections, rest, first_reading}
use Rattle.file.proofs.Checks.{Passed, passed-++, parts-++, head_passed, passed_head, each_all, all_each}

pub record Whole (s : List ℕ) : Type 0 where
  pub long : length s ≡ end_of s
  pub few : components s ≤ 512
  pub few_sections : section_count s ≤ 512
  pub signal_letters : (i : ℕ) → i < signal_count s → is_letter (get_or s (2 + 5 * i + 4) 0) ≡ true
  pub switch_letters : (i : ℕ) → i < switch_count s → is_letter (get_or s (switches_at s + 2 + 9 * i + 6) 0) ≡ true

record Section (s : List ℕ) (at before n : ℕ) (k : Sort) : Type 0 where
  count_in : at + 2 ≤ length s
  few : before + n ≤ 512
  record_in : (i : ℕ) → i < n → at + 2 + size k * i + size k ≤ length s
  lettered : (i : ℕ) → i < n → Passed (letter_checks s (at + 2 + size k * i) (letter_in k))

section_says : (s : List ℕ) (at before n : ℕ) (k : Sort) → Passed (section_checks s at before n k) → Section s at before n k
unfolding section_checks
section_says s at before n k h =
    let a = head_passed _ _ _ h in
    let b = head_passed _ _ _ a.1 in
    let r : (i : ℕ) → i < n → (leb (at + 2 + size k * i + size k) (length s) ≡ true) × Passed (letter_checks s (at + 2 + size k * i) (letter_in k)) =
    λ i l. head_passed _ _ _ (each_all n (nth_record s (at + 2) k) b.1 i l) in
    record {
      count_in = leb-true _ _ a.0;
      few = leb-true _ _ b.0;
      record_in = λ i l. leb-true _ _ (r i l).0;
      lettered = λ i l. (r i l).1;
    }

says_section : (s : List ℕ) (at before n : ℕ) (k : Sort) → Section s at before n k → Passed (section_checks s at before n k)
unfolding section_checks
says_section s at before n k h =
    let r : (i : ℕ) → i < n → Passed (nth_record s (at + 2) k i) =
    λ i l. passed_head _ _ _ (le-leb _ _ (h.record_in i l)) (h.lettered i l) in
    passed_head _ _ _ (le-leb _ _ h.count_in) (passed_head _ _ _ (le-leb _ _ h.few) (all_each n (nth_record s (at + 2) k) r))

-- the last of n numbers
last : (n m e : ℕ) → ((i : ℕ) → i < n → e + 2 * i + 2 ≤ m) → e ≤ m → e + 2 * n ≤ m
last zero m e h l = omega arith
last (suc n) m e h l = let k = h n (omega arith) in omega arith

pub read_whole : (s : List ℕ) → Passed (first_reading s) → Whole s
unfolding first_reading signal_section switch_section straight_section point_sections
read_whole s h =
    let p1 = parts-++ (signal_section s) (switch_section s ++ (straight_section s ++ (point_sections s ++ rest s))) h in
    let p2 = parts-++ (switch_section s) (straight_section s ++ (point_sections s ++ rest s)) p1.1 in
    let p3 = parts-++ (straight_section s) (point_sections s ++ rest s) p2.1 in
    let p4 = parts-++ (point_sections s) (rest s) p3.1 in
    let signals = section_says s 0 0 (signal_count s) Signal p1.0 in
    let switches = section_says s (switches_at s) (signal_count s) (switch_count s) Switch p2.0 in
    let straights = section_says s (straights_at s) (signal_count s + switch_count s) (straight_count s) Straight p3.0 in
    let sections = section_says s (sections_at s) 0 (section_count s) PointSection p4.0 in
    let most = leb-true (length s) (end_of s) (head_passed _ _ _ p4.1).0 in
    let least = last (section_count s) (length s) (sections_at s + 2) sections.record_in sections.count_in in
    record {
      long = omega arith;
      few = straights.few;
      few_sections = let f = sections.few in omega arith;
      signal_letters = λ i l. (head_passed _ _ _ (signals.lettered i l)).0;
      switch_letters = λ i l. (head_passed _ _ _ (switches.lettered i l)).0;
    }

pub whole_read : (s : List ℕ) → Whole s → Passed (first_reading s)
unfolding first_reading signal_section switch_section straight_section point_sections
whole_read s w =
    let e = w.long in
    let f = w.few in
    let g = w.few_sections in
    let signals : Section s 0 0 (signal_count s) Signal = record {
      count_in = omega arith;
      few = omega arith;
      record_in = λ i l. omega arith;
      lettered = λ i l. passed_head _ _ _ (w.signal_letters i l) refl;
    } in
    let switches : Section s (switches_at s) (signal_count s) (switch_count s) Switch = record {
      count_in = omega arith;
      few = omega arith;
      record_in = λ i l. omega arith;
      lettered = λ i l. passed_head _ _ _ (w.switch_letters i l) refl;
    } in
    let straights : Section s (straights_at s) (signal_count s + switch_count s) (straight_count s) Straight = record {
      count_in = omega arith;
      few = omega arith;
      record_in = λ i l. omega arith;
      lettered = λ i l. refl;
    } in
    let sections : Section s (sections_at s) 0 (section_count s) PointSection = record {
      count_in = omega arith;
      few = omega arith;
      record_in = λ i l. omega arith;
      lettered = λ i l. refl;
    } in
    passed-++ (signal_section s) (switch_section s ++ (straight_section s ++ (point_sections s ++ rest s))) (says_section s 0 0 (signal_count s) Signal signals)
    (passed-++ (switch_section s) (straight_section s ++ (point_sections s ++ rest s)) (says_section s (switches_at s) (signal_count s) (switch_count s) Switch switches)
    (passed-++ (straight_section s) (point_sections s ++ rest s) (says_section s (straights_at s) (signal_count s + switch_count s) (straight_count s) Straight straights)
    (passed-++ (point_sections s) (rest s) (says_section s (sections_at s) 0 (section_count s) PointSection sections)
    (passed_head _ _ _ (le-leb (length s) (end_of s) (omega arith)) refl))))
