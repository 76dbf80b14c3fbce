-- From one row to the next: what was handed out stays the first routes.
use Rattle.std.proofs.Common.{◌≡◌, ℕ, ◌<◌, true, false, ◌⊎◌, List, [], ◌∷◌, ◌++◌, length, get_or, sym, refl, ◌∙◌, subst, inl, inr, ⊎_elim, arith}
use Rattle.std.proofs.lemmas.List.{length_push, get_or_push, get_or_append_left}
use Rattle.plan.specs.Layout.{Layout}
use Rattle.route.specs.Order.{Before}
use Rattle.route.specs.Paths.{Route}
use Rattle.route.proofs.Lex.{before_irr, before_trans, before_total}
use Rattle.search.specs.Found.{Found}
use Rattle.register.specs.Routes.{Among, FirstRoutes, NextRoute, AllOut}
use Rattle.register.proofs.Pushes.{at_place}

before_both : (a b : List ℕ) → Before a b → Before b a → ⊥
before_both a b h k = before_irr a (before_trans a b a h k)

among_none : (r : List ℕ) → Among r [] → ⊥
among_none r a = let h = a.1 in omega arith

-- routes are not empty
after_nothing : (l : Layout) (r : List ℕ) → Route l r → Before [] r
after_nothing l [] t = let h = t.1.0 in absurd (omega arith)
after_nothing l (x ∷ xs) t = tt

-- nothing was handed out yet
pub first_none : (l : Layout) → FirstRoutes l []
first_none l = record {
  routes = λ i h. absurd (omega arith);
  ascending = λ i j h k. absurd (omega arith);
  none_left_out = λ i h r t b. absurd (omega arith);
}

pub next_first : (l : Layout) (q : List ℕ) → Found l [] q true → NextRoute l [] q
next_first l q f = record {
  route = f.0;
  new = among_none q;
  first = λ s t b.
      ⊎_elim
      (λ (e : s ≡ q). let F : List ℕ → Type 0 = λ x. Before s x in absurd (before_irr s (subst F (sym e) b)))
      (λ (k : Before q s). absurd (before_both s q b k))
      (f.2 s t (after_nothing l s t));
}

pub none_at_all : (l : Layout) (q : List ℕ) → Found l [] q false → AllOut l []
none_at_all l q f r t = absurd (f.1 r t (after_nothing l r t))

-- one row more
module _ (l : Layout) (rows : List (List ℕ)) (row : List ℕ) (first : FirstRoutes l rows) (next : NextRoute l rows row) where
  abbrev more : List (List ℕ)
  more = rows ++ row ∷ []

  among_more : (r : List ℕ) → Among r rows → Among r more
  among_more r a =
      let n = length_push rows row in
      let h = a.1 in
      (a.0, omega arith, get_or_append_left rows (row ∷ []) [] a.0 h ∙ a.2)

  among_last : (r : List ℕ) → r ≡ row → Among r more
  among_last r e =
      let n = length_push rows row in
      (length rows, omega arith, get_or_push rows row [] (length rows) refl ∙ sym e)

  -- all rows come before the next one
  rows_before : (i : ℕ) → i < length rows → Before (get_or rows i []) row
  rows_before i h =
      ⊎_elim
      (λ (e : get_or rows i [] ≡ row). absurd (next.new (i, h, e)))
      (⊎_elim (λ b. b) (λ (b : Before row (get_or rows i [])). absurd (next.new (first.none_left_out i h row next.route b))))
      (before_total (get_or rows i []) row)

  among_before : (r : List ℕ) → Among r rows → Before r row
  among_before r a = let F : List ℕ → Type 0 = λ x. Before x row in subst F a.2 (rows_before a.0 a.1)

  -- every route up to the row is among them
  upto_row : (s : List ℕ) → Route l s → (s ≡ row) ⊎ Before s row → Among s more
  upto_row s t h = ⊎_elim (λ e. among_last s e) (λ b. among_more s (next.first s t b)) h

  pub first_more : FirstRoutes l more
  first_more = record {
    routes = λ i h.
        let R : List ℕ → Type 0 = λ x. Route l x in
        ⊎_elim
        (λ (p : (i < length rows) × (get_or more i [] ≡ get_or rows i [])). subst R (sym p.1) (first.routes i p.0))
        (λ (p : (length rows ≡ i) × (get_or more i [] ≡ row)). subst R (sym p.1) next.route)
        (at_place rows row [] i h);
    ascending = λ i j h k.
        let n = length_push rows row in
        let i_low : i < length rows = omega arith in
        let B : List ℕ → Type 0 = λ x. Before x (get_or more j []) in
        let C : List ℕ → Type 0 = λ x. Before (get_or rows i []) x in
        subst B (sym (get_or_append_left rows (row ∷ []) [] i i_low))
        (⊎_elim
        (λ (p : (j < length rows) × (get_or more j [] ≡ get_or rows j [])). subst C (sym p.1) (first.ascending i j h p.0))
        (λ (p : (length rows ≡ j) × (get_or more j [] ≡ row)). subst C (sym p.1) (rows_before i i_low))
        (at_place rows row [] j k));
    none_left_out = λ i h r t b.
        let B : List ℕ → Type 0 = λ x. Before r x in
        ⊎_elim
        (λ (p : (i < length rows) × (get_or more i [] ≡ get_or rows i [])). among_more r (first.none_left_out i p.0 r t (subst B p.1 b)))
        (λ (p : (length rows ≡ i) × (get_or more i [] ≡ row)). upto_row r t (inr (subst B p.1 b)))
        (at_place rows row [] i h);
  }

  -- the route that was found after the row is the next one
  pub next_more : (q : List ℕ) → Found l row q true → NextRoute l more q
  next_more q f = record {
    route = f.0;
    new = λ a.
        let B : List ℕ → Type 0 = λ x. Before row x in
        ⊎_elim
        (λ (p : (a.0 < length rows) × (get_or more a.0 [] ≡ get_or rows a.0 [])).
        before_both row q f.1 (among_before q (a.0, p.0, sym p.1 ∙ a.2)))
        (λ (p : (length rows ≡ a.0) × (get_or more a.0 [] ≡ row)). before_irr row (subst B (sym a.2 ∙ p.1) f.1))
        (at_place rows row [] a.0 a.1);
    first = λ s t b.
        let B : List ℕ → Type 0 = λ x. Before s x in
        ⊎_elim
        (λ (e : s ≡ row). upto_row s t (inl e))
        (⊎_elim
        (λ (k : Before s row). upto_row s t (inr k))
        (λ (k : Before row s).
        ⊎_elim
        (λ (e : s ≡ q). absurd (before_irr s (subst B (sym e) b)))
        (λ (z : Before q s). absurd (before_both s q b z))
        (f.2 s t k)))
        (before_total s row);
  }

  pub none_more : (q : List ℕ) → Found l row q false → AllOut l more
  none_more q f s t =
      ⊎_elim
      (λ (e : s ≡ row). upto_row s t (inl e))
      (⊎_elim (λ (k : Before s row). upto_row s t (inr k)) (λ (k : Before row s). absurd (f.1 s t k)))
      (before_total s row)

-- there is one next route only
pub next_one : (l : Layout) (rows : List (List ℕ)) (r s : List ℕ) → NextRoute l rows r → NextRoute l rows s → r ≡ s
next_one l rows r s m n =
    ⊎_elim (λ e. e)
    (⊎_elim (λ (b : Before r s). absurd (m.new (n.first r m.route b))) (λ (b : Before s r). absurd (n.new (m.first s n.route b))))
    (before_total r s)
