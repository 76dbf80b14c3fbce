-- A row has one judgement, and a test that computes finds it.
use Rattle.std.proofs.Common.{◌≡◌, ℕ, ◌<◌, Bool, true, false, cond, not, ◌&&◌, ltb, leb, List, [], length, get_or, take, Ok, Err, Result, refl, ap, subst, ⊎_elim, arith}
use Rattle.std.proofs.lemmas.Bool.{leb-true, ltb-true, ltb-false, not-true, and_parts, cases_Bool}
use Rattle.std.proofs.lemmas.Bool.Decides.{not_from_Decides}
use Rattle.fault.specs.declared.kinds.BoxFault.{BoxFault}
use Rattle.fault.specs.declared.kinds.BoxFault.TheVariants.{NoRoute}
use Rattle.plan.specs.Layout.{Layout}
use Rattle.row.specs.Row.{is_row, entries_of}
use Rattle.judging.specs.Judged.{FailsAt, Judged}
use Rattle.judging.proofs.Ones.{refused_once, accepted_or_refused}
use Rattle.judging.proofs.Places.{fails_early, fails_late, row_some}
use Rattle.table.proofs.Paths.{may, decides_may, goes_on, decides_begun, ends, decides_ends, is_route, decides_route}

module _ (l : Layout) where
  abbrev goes_wrong : List ℕ → ℕ → Bool
  goes_wrong es k =
      (leb k (length es) && goes_on l [] (take k es))
      && cond (ltb k (length es)) (not (may l (take k es) (get_or es k 0))) (not (ends l es))

  wrong : (es : List ℕ) (k : ℕ) → 0 < length es → goes_wrong es k ≡ true → FailsAt l es k
  wrong es k some h =
      let p = and_parts (leb k (length es) && goes_on l [] (take k es)) (cond (ltb k (length es)) (not (may l (take k es) (get_or es k 0))) (not (ends l es))) h in
      let q = and_parts (leb k (length es)) (goes_on l [] (take k es)) p.0 in
      let C : Bool → Type 0 = λ b. cond b (not (may l (take k es) (get_or es k 0))) (not (ends l es)) ≡ true in
      let within = leb-true k (length es) q.0 in
      let begun = (decides_begun l (take k es)).0 q.1 in
      ⊎_elim
      (λ (low : ltb k (length es) ≡ true).
      fails_early l es k record {
        within = within;
        begun = begun;
        stops = λ _. not_from_Decides (may l (take k es) (get_or es k 0)) (decides_may l (take k es) (get_or es k 0)) (not-true (may l (take k es) (get_or es k 0)) (subst C low p.1));
      } (ltb-true k (length es) low))
      (λ (high : ltb k (length es) ≡ false).
      let past = ltb-false k (length es) high in
      fails_late l es k record { within = within; begun = begun; stops = λ short. absurd (omega arith) } past some
      (λ _. not_from_Decides (ends l es) (decides_ends l es) (not-true (ends l es) (subst C high p.1))))
      (cases_Bool (ltb k (length es)))

  abbrev pub judged_wrong : List ℕ → ℕ → Bool
  judged_wrong s k = is_row s && goes_wrong (entries_of s) k

  judged_so : (s : List ℕ) (k : ℕ) → judged_wrong s k ≡ true → Judged l s (Err (NoRoute k))
  judged_so s k h =
      let p = and_parts (is_row s) (goes_wrong (entries_of s) k) h in
      (p.0, wrong (entries_of s) k (row_some s (entries_of s) p.0 refl) p.1)

  pub only_wrong : (s : List ℕ) (k : ℕ) → judged_wrong s k ≡ true → (r : Result (Unit {0}) BoxFault) → Judged l s r → r ≡ Err (NoRoute k)
  only_wrong s k h (Ok u) j = absurd (accepted_or_refused l s (NoRoute k) j (judged_so s k h))
  only_wrong s k h (Err f) j = ap Err (refused_once l s f (NoRoute k) j (judged_so s k h))

  abbrev pub judged_right : List ℕ → Bool
  judged_right s = is_row s && is_route l (entries_of s)

  pub accepted_so : (s : List ℕ) → judged_right s ≡ true → Judged l s (Ok tt)
  accepted_so s h = let p = and_parts (is_row s) (is_route l (entries_of s)) h in (p.0, (decides_route l (entries_of s)).0 p.1)

  pub only_right : (s : List ℕ) → judged_right s ≡ true → (r : Result (Unit {0}) BoxFault) → Judged l s r → r ≡ Ok tt
  only_right s h (Ok u) j = refl
  only_right s h (Err f) j = absurd (accepted_or_refused l s f (accepted_so s h) j)
