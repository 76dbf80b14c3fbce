-- The open routes stay safe, whatever is written.
use Rattle.std.proofs.Common.{◌≡◌, ℕ, ◌+◌, ◌/◌, ◌%◌, ◌<◌, ◌≤◌, Bool, true, cond, eqb, List, [], ◌∷◌, ◌++◌, length, get_or, sym, refl, ap, ◌∙◌, subst, ⊎_elim, arith}
use Rattle.std.proofs.lemmas.List.{length_push, map_push, get_or_append_left}
use Rattle.std.proofs.lemmas.Bool.{ne_eqb}
use Rattle.plan.specs.declared.parts.Position.{Position}
use Rattle.plan.specs.Layout.{Layout, is_switch}
use Rattle.route.specs.Paths.{Route}
use Rattle.frame.specs.Book.{Book, OpenRow, fresh, laid, marked, opened_with, closed_at, struck}
use Rattle.frame.specs.Calls.{OnRow, no_row, Held, Conflicts, LiesOtherwise}
use Rattle.register.proofs.Pushes.{at_place}
use Rattle.signal_box.specs.Journal.{without}
use Rattle.signal_box.specs.Safety.{row_at, LiesAs, Safe}
use Rattle.signal_box.proofs.Struck.{struck_embeds, struck_serials}
use Rattle.signal_box.proofs.Switches.{switch_entry, lies_as}

pub safe_fresh : (l : Layout) → Safe l fresh []
safe_fresh l = record {
  routes = λ k h. absurd (omega arith);
  apart = λ i k h n. absurd (omega arith);
  lies = λ k i h. absurd (omega arith);
  slips = refl;
  distinct = λ i k h n. absurd (omega arith);
  given = λ k h. absurd (omega arith);
}

module _ (l : Layout) (b : Book) (out : List ℕ) (safe : Safe l b out) where
  pub safe_marked : (n : ℕ) (m : Bool) → Safe l (marked b n m) out
  safe_marked n m = record {
    routes = safe.routes;
    apart = safe.apart;
    lies = safe.lies;
    slips = safe.slips;
    distinct = safe.distinct;
    given = safe.given;
  }

  -- a switch on no open row may lie either way
  pub safe_laid : (c : ℕ) (p : Position) → (Held b.opened c → ⊥) → Safe l (laid b c p) out
  safe_laid c p free = record {
    routes = safe.routes;
    apart = safe.apart;
    lies = λ k i h n s.
        let e = get_or (row_at b.opened k) i 0 in
        let other : cond (eqb (e / 4) c) p (b.position (e / 4)) ≡ b.position (e / 4) = ap (λ (x : Bool). cond x p (b.position (e / 4))) (ne_eqb (e / 4) c (λ q. free (k, h, (i, n, q)))) in
        let F : Position → Type 0 = λ x. LiesAs x (e % 4) in
        subst F (sym other) (safe.lies k i h n s);
    slips = safe.slips;
    distinct = safe.distinct;
    given = safe.given;
  }

  -- a row less
  pub safe_closed : (s : ℕ) → Safe l (closed_at b s) (without s out)
  safe_closed s =
      let e = struck_embeds s b.opened in
      record {
        routes = λ k h. let R : OpenRow → Type 0 = λ r. Route l r.entries in subst R (sym (e.same k h)) (safe.routes (e.up k) (e.inside k h));
        apart = λ i k h n c.
            let old : i < length (struck s b.opened) = omega arith in
            let A : OpenRow → Type 0 = λ r. OnRow r.entries c → OnRow (row_at (struck s b.opened) k) c → ⊥ in
            let B : OpenRow → Type 0 = λ r. OnRow (row_at b.opened (e.up i)) c → OnRow r.entries c → ⊥ in
            subst A (sym (e.same i old)) (subst B (sym (e.same k n)) (safe.apart (e.up i) (e.up k) (e.rises i k h n) (e.inside k n) c));
        lies = λ k i h.
            let L : OpenRow → Type 0 = λ r. i < length r.entries → is_switch (l.kind (get_or r.entries i 0 / 4)) ≡ true → LiesAs (b.position (get_or r.entries i 0 / 4)) (get_or r.entries i 0 % 4) in
            subst L (sym (e.same k h)) (safe.lies (e.up k) i (e.inside k h));
        slips = ap (without s) safe.slips ∙ struck_serials s b.opened;
        distinct = λ i k h n q.
            let old : i < length (struck s b.opened) = omega arith in
            safe.distinct (e.up i) (e.up k) (e.rises i k h n) (e.inside k n)
            (sym (ap (λ (r : OpenRow). r.serial) (e.same i old)) ∙ q ∙ ap (λ (r : OpenRow). r.serial) (e.same k n));
        given = λ k h. let G : OpenRow → Type 0 = λ r. r.serial ≤ b.given in subst G (sym (e.same k h)) (safe.given (e.up k) (e.inside k h));
      }

  -- a row more
  module _ (es : List ℕ) (route : Route l es) (free : Conflicts b.opened es → ⊥) (lying : LiesOtherwise b es → ⊥) where
    abbrev row : OpenRow
    row = record { serial = b.given + 1; entries = es }

    abbrev more : List OpenRow
    more = b.opened ++ row ∷ []

    abbrev Old : ℕ → Type 0
    Old k = (k < length b.opened) × (get_or more k no_row ≡ get_or b.opened k no_row)

    abbrev New : ℕ → Type 0
    New k = (length b.opened ≡ k) × (get_or more k no_row ≡ row)

    -- what holds of the rows before and of the new one holds of all
    of_all : (F : OpenRow → Type 0) → ((k : ℕ) → k < length b.opened → F (get_or b.opened k no_row)) → F row → (k : ℕ) → k < length more → F (get_or more k no_row)
    of_all F old new k h =
        ⊎_elim
        (λ (p : Old k). subst F (sym p.1) (old k p.0))
        (λ (p : New k). subst F (sym p.1) new)
        (at_place b.opened row no_row k h)

    -- and the same of two rows
    of_pairs : (F : OpenRow → OpenRow → Type 0) → ((i k : ℕ) → i < k → k < length b.opened → F (get_or b.opened i no_row) (get_or b.opened k no_row))
        → ((i : ℕ) → i < length b.opened → F (get_or b.opened i no_row) row)
        → (i k : ℕ) → i < k → k < length more → F (get_or more i no_row) (get_or more k no_row)
    of_pairs F old new i k h n =
        let long = length_push b.opened row in
        let low : i < length b.opened = omega arith in
        let first = get_or_append_left b.opened (row ∷ []) no_row i low in
        let A : OpenRow → Type 0 = λ r. F r (get_or more k no_row) in
        let B : OpenRow → Type 0 = λ r. F (get_or b.opened i no_row) r in
        subst A (sym first)
        (⊎_elim
        (λ (p : Old k). subst B (sym p.1) (old i k h p.0))
        (λ (p : New k). subst B (sym p.1) (new i low))
        (at_place b.opened row no_row k n))

    pub safe_opened : Safe l (opened_with b (b.given + 1) es) (out ++ (b.given + 1) ∷ [])
    safe_opened = record {
      routes = of_all (λ r. Route l r.entries) safe.routes route;
      apart = λ i k h n c.
          of_pairs (λ r q. OnRow r.entries c → OnRow q.entries c → ⊥)
          (λ i k h n. safe.apart i k h n c)
          (λ i n x y. let H : ℕ → Type 0 = λ z. Held b.opened z in free (y.0, y.1, subst H (sym y.2) (i, n, x)))
          i k h n;
      lies = λ k i h.
          of_all (λ r. i < length r.entries → is_switch (l.kind (get_or r.entries i 0 / 4)) ≡ true → LiesAs (b.position (get_or r.entries i 0 / 4)) (get_or r.entries i 0 % 4))
          (λ k h. safe.lies k i h)
          (λ n s. lies_as (b.position (get_or es i 0 / 4)) (get_or es i 0 % 4) (switch_entry l es route.0 i n s) (λ a. lying (i, n, a)))
          k h;
      slips = ap (λ (ns : List ℕ). ns ++ (b.given + 1) ∷ []) safe.slips ∙ sym (map_push (λ (r : OpenRow). r.serial) b.opened row);
      distinct =
          of_pairs (λ r q. r.serial ≡ q.serial → ⊥) safe.distinct (λ i n e. let g = safe.given i n in omega arith);
      given = of_all (λ r. r.serial ≤ b.given + 1) (λ k h. let g = safe.given k h in omega arith) (omega arith);
    }
