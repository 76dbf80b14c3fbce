-- Tests in a fixed order give one answer.
use Rattle.std.proofs.Common.{◌≡◌, ℕ, ◌≤◌, List, ◌++◌, length, drop, Some, None, Ok, Err, Option, Result, sym, refl, ap, ◌∙◌, inl, inr}
use Rattle.fault.specs.declared.kinds.BoxFault.{BoxFault}
use Rattle.fault.specs.declared.kinds.BoxFault.TheVariants.{Plan, NoSuchSection, ShortSpace, Drained, RowsSpent, Conflict, OtherPosition, Occupied, FrameFull, SlipsSpent, UnknownSlip}
use Rattle.fault.specs.declared.kinds.PlanFault.TheVariants.{NoSuchPart}
use Rattle.plan.specs.Layout.{Layout}
use Rattle.row.specs.Row.{bytes_of, entries_of}
use Rattle.judging.proofs.Ones.{refused_once, accepted_or_refused}
use Rattle.register.specs.Routes.{AllOut}
use Rattle.register.proofs.Handing.{next_one}
use Rattle.frame.specs.Book.{Book}
use Rattle.frame.specs.Calls.{IsSwitch, Held, OnOccupied, Conflicts, LiesOtherwise, RunsOccupied, IsOpen, Standing, Marking, Throwing, Opening, Releasing}
use Rattle.frame.specs.Sections.{IsSection}
use Rattle.frame.specs.Tests.{refusal, Passes, Test, Judging}
use Rattle.signal_box.specs.Journal.{Journal, NextSerial}
use Rattle.signal_box.specs.OneAnswer.{OneAnswer}
use Rattle.signal_box.specs.Turning.{TooLong, Turning, Writes}

-- no two answers
abbrev One : (Option BoxFault → Type 0) → Type 0
One T = (o p : Option BoxFault) → T o → T p → o ≡ p

passes_one : One Passes
passes_one None None a b = refl
passes_one None (Some g) a b = absurd b
passes_one (Some f) p a b = absurd a

module _ (x : BoxFault) (C : Type 0) (next : Option BoxFault → Type 0) (one : One next) where
  test_one : One (Test x C next)
  test_one None None a b = refl
  test_one None (Some g) a (inl b) = absurd (a.0 b.0)
  test_one None (Some g) a (inr b) = one None (Some g) a.1 b.1
  test_one (Some f) None (inl a) b = absurd (b.0 a.0)
  test_one (Some f) None (inr a) b = one (Some f) None a.1 b.1
  test_one (Some f) (Some g) (inl a) (inl b) = ap Some (a.1 ∙ sym b.1)
  test_one (Some f) (Some g) (inl a) (inr b) = absurd (b.0 a.0)
  test_one (Some f) (Some g) (inr a) (inl b) = absurd (a.0 b.0)
  test_one (Some f) (Some g) (inr a) (inr b) = one (Some f) (Some g) a.1 b.1

module _ (l : Layout) (s : List ℕ) (next : Option BoxFault → Type 0) (one : One next) where
  judging_one : One (Judging l s next)
  judging_one None None a b = refl
  judging_one None (Some g) a (inl b) = absurd (accepted_or_refused l s g a.0 b)
  judging_one None (Some g) a (inr b) = one None (Some g) a.1 b.1
  judging_one (Some f) None (inl a) b = absurd (accepted_or_refused l s f b.0 a)
  judging_one (Some f) None (inr a) b = one (Some f) None a.1 b.1
  judging_one (Some f) (Some g) (inl a) (inl b) = ap Some (refused_once l s f g a b)
  judging_one (Some f) (Some g) (inl a) (inr b) = absurd (accepted_or_refused l s f b.0 a)
  judging_one (Some f) (Some g) (inr a) (inl b) = absurd (accepted_or_refused l s g a.0 b)
  judging_one (Some f) (Some g) (inr a) (inr b) = one (Some f) (Some g) a.1 b.1

marking_one : (l : Layout) (n : ℕ) → One (Marking l n)
marking_one l n = test_one NoSuchSection (IsSection l n → ⊥) Passes passes_one

throwing_one : (l : Layout) (b : Book) (c : ℕ) → One (Throwing l b c)
throwing_one l b c =
    test_one (Plan (NoSuchPart 0)) (IsSwitch l c → ⊥) (Test Conflict (Held b.opened c) (Test Occupied (OnOccupied l b c) Passes))
    (test_one Conflict (Held b.opened c) (Test Occupied (OnOccupied l b c) Passes)
    (test_one Occupied (OnOccupied l b c) Passes passes_one))

releasing_one : (b : Book) (n : ℕ) → One (Releasing b n)
releasing_one b n = test_one UnknownSlip (IsOpen b.opened n → ⊥) Passes passes_one

standing_one : (l : Layout) (b : Book) (es : List ℕ) → One (Standing l b es)
standing_one l b es =
    let spent : Option BoxFault → Type 0 = Test SlipsSpent (b.given ≡ 65535) Passes in
    let full : Option BoxFault → Type 0 = Test FrameFull (length b.opened ≡ 8) spent in
    let occupied : Option BoxFault → Type 0 = Test Occupied (RunsOccupied l b es) full in
    let lying : Option BoxFault → Type 0 = Test OtherPosition (LiesOtherwise b es) occupied in
    test_one Conflict (Conflicts b.opened es) lying
    (test_one OtherPosition (LiesOtherwise b es) occupied
    (test_one Occupied (RunsOccupied l b es) full
    (test_one FrameFull (length b.opened ≡ 8) spent
    (test_one SlipsSpent (b.given ≡ 65535) Passes passes_one))))

opening_one : (l : Layout) (b : Book) (s : List ℕ) → One (Opening l b s)
opening_one l b s = judging_one l s (Standing l b (entries_of s)) (standing_one l b (entries_of s))

turning_one : (l : Layout) (rows : List (List ℕ)) (space : List ℕ) → One (Turning l rows space)
turning_one l rows space =
    let short : Option BoxFault → Type 0 = Test ShortSpace (TooLong l rows space) Passes in
    test_one Drained (AllOut l rows) (Test RowsSpent (65535 ≤ length rows) short)
    (test_one RowsSpent (65535 ≤ length rows) short
    (test_one ShortSpace (TooLong l rows space) Passes passes_one))

-- the same refusal is the same answer, where an acceptance tells no more
by_refusal : (r q : Result (Unit {0}) BoxFault) → refusal r ≡ refusal q → r ≡ q
by_refusal (Ok u) (Ok v) e = refl
by_refusal (Ok u) (Err g) e = cc
by_refusal (Err f) (Ok v) e = cc
by_refusal (Err f) (Err g) e = cc

by_serial : (j : Journal) (r q : Result ℕ BoxFault) → refusal r ≡ refusal q → NextSerial j r → NextSerial j q → r ≡ q
by_serial j (Ok n) (Ok m) e a b = ap Ok (a ∙ sym b)
by_serial j (Ok n) (Err g) e a b = cc
by_serial j (Err f) (Ok m) e a b = cc
by_serial j (Err f) (Err g) e a b = cc

by_row : (l : Layout) (rows : List (List ℕ)) (space s t : List ℕ) (r q : Result ℕ BoxFault) → refusal r ≡ refusal q → Writes l rows space s r → Writes l rows space t q → (r ≡ q) × (s ≡ t)
by_row l rows space s t (Ok n) (Ok m) e a b =
    let row = next_one l rows a.0 b.0 a.1 b.1 in
    let same : n ≡ m = a.2 ∙ ap (λ x. length (bytes_of x)) row ∙ sym b.2 in
    (ap Ok same, a.3 ∙ ap (λ x. bytes_of x ++ drop n space) row ∙ ap (λ k. bytes_of b.0 ++ drop k space) same ∙ sym b.3)
by_row l rows space s t (Ok n) (Err g) e a b = cc
by_row l rows space s t (Err f) (Ok m) e a b = cc
by_row l rows space s t (Err f) (Err g) e a b = (cc, a ∙ sym b)

pub one_answer : OneAnswer
one_answer l j = (
  (λ space a b r q d e. by_row l j.rows space a b r q (turning_one l j.rows space (refusal r) (refusal q) d.0 e.0) d.1 e.1),
  (λ c p r q d e. by_refusal r q (throwing_one l j.book c (refusal r) (refusal q) d e)),
  (λ n r q d e. by_refusal r q (marking_one l n (refusal r) (refusal q) d e)),
  (λ n r q d e. by_refusal r q (marking_one l n (refusal r) (refusal q) d e)),
  (λ s r q d e. by_serial j r q (opening_one l j.book s (refusal r) (refusal q) d.0 e.0) d.1 e.1),
  (λ n r q d e. by_refusal r q (releasing_one j.book n (refusal r) (refusal q) d e)),
)
