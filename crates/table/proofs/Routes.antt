-- Which lists are the routes of a layout, found by trying every entry, and which route comes next.
use Rattle.std.proofs.Common.{◌≡◌, ℕ, zero, suc, ◌*◌, ◌<◌, Bool, true, false, cond, ◌&&◌, ◌||◌, eqb, ltb, List, [], ◌∷◌, ◌++◌, length, get_or, take, Decides, sym, refl, ap, ◌∙◌, subst, ⊎_elim, append_assoc, append-nil, arith}
use Rattle.std.proofs.ByRecursion.{All-get_or, Decides-by_and}
use Rattle.std.proofs.lemmas.List.{get_or-take, length-take-le}
use Rattle.std.proofs.lemmas.Bool.{false≢true, eqb-true, and_parts, or_cases, cases_order}
use Rattle.std.proofs.lemmas.Bool.Decides.{Decides-eqb, Decides-ltb, Decides-and, Decides-or, Decides-below_and}
use Rattle.plan.specs.Layout.{Layout, Lawful}
use Rattle.route.specs.Order.{Before}
use Rattle.route.specs.Paths.{Route}
use Rattle.route.specs.Growth.{May}
use Rattle.route.proofs.Ending.{next_below}
use Rattle.route.proofs.Growth.{grown_at}
use Rattle.route.proofs.Lex.{before_irr, before_trans}
use Rattle.route.proofs.Places.{path_begun}
use Rattle.register.specs.Routes.{Among, FirstRoutes, NextRoute, AllOut}
use Rattle.table.proofs.Paths.{may, decides_may, ends, decides_ends, is_route, decides_route}

abbrev same : List ℕ → List ℕ → Bool
same [] [] = true
same [] (y ∷ ys) = false
same (x ∷ xs) [] = false
same (x ∷ xs) (y ∷ ys) = eqb x y && same xs ys

same_equal : (a b : List ℕ) → same a b ≡ true → a ≡ b
same_equal [] [] h = refl
same_equal [] (y ∷ ys) h = absurd (false≢true h)
same_equal (x ∷ xs) [] h = absurd (false≢true h)
same_equal (x ∷ xs) (y ∷ ys) h =
    let p = and_parts (eqb x y) (same xs ys) h in
    let e = eqb-true x y p.0 in
    let s = same_equal xs ys p.1 in
    cc

abbrev is_among : List ℕ → List (List ℕ) → Bool
is_among q [] = false
is_among q (r ∷ rows) = same r q || is_among q rows

among : (q : List ℕ) (rows : List (List ℕ)) → is_among q rows ≡ true → Among q rows
among q [] h = absurd (false≢true h)
among q (r ∷ rows) h =
    ⊎_elim
    (λ (s : same r q ≡ true). (0, omega arith, same_equal r q s))
    (λ (s : is_among q rows ≡ true). let a = among q rows s in let i = a.1 in (suc a.0, omega arith, a.2))
    (or_cases (same r q) (is_among q rows) h)

abbrev comes_before : List ℕ → List ℕ → Bool
comes_before [] [] = false
comes_before [] (y ∷ ys) = true
comes_before (x ∷ xs) [] = false
comes_before (x ∷ xs) (y ∷ ys) = ltb x y || (eqb x y && comes_before xs ys)

decides_before : (a b : List ℕ) → Decides (comes_before a b) (Before a b)
decides_before [] [] = (λ h. false≢true h, λ h. absurd h)
decides_before [] (y ∷ ys) = (λ h. tt, λ h. refl)
decides_before (x ∷ xs) [] = (λ h. false≢true h, λ h. absurd h)
decides_before (x ∷ xs) (y ∷ ys) =
    Decides-or (ltb x y) (eqb x y && comes_before xs ys) (Decides-ltb x y)
    (Decides-and (eqb x y) (comes_before xs ys) (Decides-eqb x y) (decides_before xs ys))

abbrev all_after : List ℕ → List (List ℕ) → Bool
all_after r [] = true
all_after r (s ∷ rows) = comes_before r s && all_after r rows

abbrev ascends : List (List ℕ) → Bool
ascends [] = true
ascends (r ∷ rows) = all_after r rows && ascends rows

ascending : (rows : List (List ℕ)) → ascends rows ≡ true → (i j : ℕ) → i < j → j < length rows → Before (get_or rows i []) (get_or rows j [])
ascending [] h i j low high = absurd (omega arith)
ascending (r ∷ rows) h i zero low high = absurd (omega arith)
ascending (r ∷ rows) h zero (suc j) low high =
    let p = and_parts (all_after r rows) (ascends rows) h in
    All-get_or (Before r) rows j [] (omega arith)
    ((Decides-by_and (comes_before r) (Before r) (all_after r) (decides_before r) refl (λ _ _. refl) rows).0 p.0)
ascending (r ∷ rows) h (suc i) (suc j) low high =
    let p = and_parts (all_after r rows) (ascends rows) h in
    ascending rows p.1 i j (omega arith) (omega arith)

abbrev every_below : (ℕ → Bool) → ℕ → Bool
every_below p zero = true
every_below p (suc n) = p n && every_below p n

below : (p : ℕ → Bool) (n : ℕ) → every_below p n ≡ true → (k : ℕ) → k < n → p k ≡ true
below p n h =
    (Decides-below_and p (λ k. p k ≡ true) (every_below p) (λ k. (λ t. t, λ t. t)) refl (λ _. refl) n).0 h

unless : (b c : Bool) → cond b c true ≡ true → b ≡ true → c ≡ true
unless true c h t = h
unless false c h t = absurd (false≢true t)

module _ (l : Layout) (lawful : Lawful l) (rows : List (List ℕ)) where
  -- every route that begins with the path is one of the rows; so many entries are tried behind it, and no path is longer
  abbrev covers : ℕ → List ℕ → Bool
  covers zero q = false
  covers (suc n) q =
      cond (ends l q) (is_among q rows) true
      && every_below (λ e. cond (may l q e) (covers n (q ++ e ∷ [])) true) (4 * l.count)

  covered : (n : ℕ) (q t : List ℕ) → covers n q ≡ true → Route l (q ++ t) → Among (q ++ t) rows
  covered zero q t h r = absurd (false≢true h)
  covered (suc n) q [] h r =
      let p = and_parts (cond (ends l q) (is_among q rows) true) (every_below (λ e. cond (may l q e) (covers n (q ++ e ∷ [])) true) (4 * l.count)) h in
      let R : List ℕ → Type 0 = λ x. Route l x in
      let A : List ℕ → Type 0 = λ x. Among x rows in
      subst A (sym (append-nil q))
      (among q rows (unless (ends l q) (is_among q rows) p.0 ((decides_ends l q).1 (subst R (append-nil q) r).1)))
  covered (suc n) q (e ∷ t) h r =
      let p = and_parts (cond (ends l q) (is_among q rows) true) (every_below (λ e. cond (may l q e) (covers n (q ++ e ∷ [])) true) (4 * l.count)) h in
      let R : List ℕ → Type 0 = λ x. Route l x in
      let A : List ℕ → Type 0 = λ x. Among x rows in
      let m = grown_at (May l) q t e (path_begun l (q ++ e ∷ t) r.0) in
      let low = next_below l lawful q e m.0 in
      let here = below (λ e. cond (may l q e) (covers n (q ++ e ∷ [])) true) (4 * l.count) p.1 e (omega arith) in
      subst A (append_assoc q (e ∷ []) t)
      (covered n (q ++ e ∷ []) t (unless (may l q e) (covers n (q ++ e ∷ [])) here ((decides_may l q e).1 m))
      (subst R (sym (append_assoc q (e ∷ []) t)) r))

  abbrev all_routes : List (List ℕ) → Bool
  all_routes [] = true
  all_routes (r ∷ rs) = is_route l r && all_routes rs

  -- the rows are all routes of the layout, in their order
  abbrev pub are_the_routes : Bool
  are_the_routes = (covers (suc l.count) [] && ascends rows) && all_routes rows

  pub the_routes : are_the_routes ≡ true → FirstRoutes l rows × AllOut l rows
  the_routes h =
      let p = and_parts (covers (suc l.count) [] && ascends rows) (all_routes rows) h in
      let q = and_parts (covers (suc l.count) []) (ascends rows) p.0 in
      let each = (Decides-by_and (is_route l) (Route l) all_routes (decides_route l) refl (λ _ _. refl) rows).0 p.1 in
      let out : AllOut l rows = λ r t. covered (suc l.count) [] r q.0 t in (
        record {
          routes = λ i low. All-get_or (Route l) rows i [] low each;
          ascending = ascending rows q.1;
          none_left_out = λ i low r t b. out r t;
        },
        out,
      )

-- after the first rows of them all comes the next
pub next_of : (l : Layout) (rows : List (List ℕ)) → FirstRoutes l rows → AllOut l rows → (k : ℕ) → k < length rows → NextRoute l (take k rows) (get_or rows k [])
next_of l rows first out k h =
    let row = get_or rows k [] in
    let B : List ℕ → Type 0 = λ x. Before x row in
    let C : List ℕ → Type 0 = λ x. Before row x in
    let n = length-take-le k rows (omega arith) in
    record {
      route = first.routes k h;
      new = λ a.
          let i = a.1 in
          let low : a.0 < k = omega arith in
          before_irr row (subst B (sym (get_or-take k rows a.0 [] low) ∙ a.2) (first.ascending a.0 k low h));
      first = λ s t b.
          let a = out s t in
          ⊎_elim
          (λ (e : a.0 ≡ k).
          let is : s ≡ row = sym a.2 ∙ ap (λ i. get_or rows i []) e in absurd (before_irr row (subst B is b)))
          (⊎_elim
          (λ (low : a.0 < k). (a.0, omega arith, get_or-take k rows a.0 [] low ∙ a.2))
          (λ (high : k < a.0).
          absurd (before_irr row (before_trans row s row (subst C a.2 (first.ascending k a.0 high a.1)) b))))
          (cases_order a.0 k);
    }
