-- What each call promises of the register or the frame, as a note in the journal of the box.
use Rattle.std.proofs.Common.{◌≡◌, ℕ, ◌+◌, Bool, true, false, List, [], ◌∷◌, ◌++◌, IfOk, IfErr, OnOk, OnErr, Some, None, Ok, Err, Result, sym, ap, ◌∙◌, subst}
use Rattle.fault.specs.declared.kinds.BoxFault.{BoxFault}
use Rattle.plan.specs.declared.parts.Position.{Position}
use Rattle.plan.specs.Layout.{Layout}
use Rattle.row.specs.Row.{entries_of}
use Rattle.register.specs.declared.registers.Register.{Register}
use Rattle.register.specs.Handed as register
use Rattle.frame.specs.declared.frame.Frame.{Frame}
use Rattle.frame.specs.declared.slip.Slip.{Slip}
use Rattle.frame.specs.Book.{Book, laid, marked, opened_with, closed_at}
use Rattle.frame.specs.Calls.{Marking, Throwing, Opening, Releasing}
use Rattle.frame.specs.Tests.{refusal, kept_refusal}
use Rattle.frame.specs.View.{view}
use Rattle.signal_box.specs.declared.signal_box.SignalBox.{SignalBox}
use Rattle.signal_box.specs.Journal.{Journal}
use Rattle.signal_box.specs.Journal.Event.{Turned, Restarted, Thrown, Occupied, Cleared, Opened, Released}
use Rattle.signal_box.specs.Kept.{Kept, Noted}
use Rattle.signal_box.specs.Safety.{Safe}
use Rattle.signal_box.specs.Slips.{serial_given, unkept}
use Rattle.signal_box.proofs.Safety.{safe_marked, safe_laid, safe_opened, safe_closed}
use Rattle.signal_box.proofs.Turns.{turning_ok, turning_err, handed_on}

module _ {P : Type 0} (l : Layout) (j : Journal) (x : SignalBox P) (kept : Kept l j x) where
  abbrev with_register : Register P → SignalBox P
  with_register g = record { register = g; frame = x.frame }

  abbrev with_frame : Frame → SignalBox P
  with_frame f = record { register = x.register; frame = f }

  abbrev b : Book
  b = view x.frame

  -- a refused call left the frame as it was
  same_frame : (f : Frame) → f ≡ x.frame → Kept l j (with_frame f)
  same_frame f e = record { book = ap view e ∙ kept.book; handed = kept.handed; safe = kept.safe }

  pub turned : (g : Register P) (s s' : List ℕ) (r : Result ℕ BoxFault) → OnErr r ((g ≡ x.register) × (s' ≡ s))
      → ((rows : List (List ℕ)) → register.Handed l rows x.register → register.Turned l rows s s' g r) → Noted l j (Turned s s' r) (with_register g)
  turned g s s' (Ok n) same t =
      let d = t j.rows kept.handed in
      record {
        demanded = (turning_ok l j.rows s s' g n d, (d.0, d.1, d.4, d.5));
        kept = record { book = kept.book; handed = handed_on l j.rows s s' g n d; safe = kept.safe };
      }
  turned g s s' (Err f) same t =
      let H : Register P → Type 0 = λ y. register.Handed l j.rows y in
      record {
        demanded = (turning_err l j.rows s s' g f (t j.rows kept.handed), same.1);
        kept = record { book = kept.book; handed = subst H (sym same.0) kept.handed; safe = kept.safe };
      }

  pub restarted : (g : Register P) → register.Handed l [] g → Noted l j Restarted (with_register g)
  restarted g h = record { demanded = tt; kept = record { book = kept.book; handed = h; safe = kept.safe } }

  -- the tests were made of the journal's book
  by_book : (T : Book → Type 0) → T b → T j.book
  by_book T t = subst T kept.book t

  pub thrown : (f : Frame) (c : ℕ) (p : Position) (r : Result (Unit {0}) BoxFault) → Throwing l b c (refusal r) → OnErr r (f ≡ x.frame)
      → OnOk r (view f ≡ laid b c p) → Noted l j (Thrown c p r) (with_frame f)
  thrown f c p (Ok u) told same laid_so =
      let d = by_book (λ y. Throwing l y c None) told in
      record {
        demanded = d;
        kept = record {
          book = laid_so ∙ ap (λ (y : Book). laid y c p) kept.book;
          handed = kept.handed;
          safe = safe_laid l j.book j.out kept.safe c p d.1.0;
        };
      }
  thrown f c p (Err e) told same laid_so = record { demanded = by_book (λ y. Throwing l y c (Some e)) told; kept = same_frame f same }

  marked_so : (f : Frame) (n : ℕ) (m : Bool) → view f ≡ marked b n m → Kept l (record { rows = j.rows; book = marked j.book n m; out = j.out }) (with_frame f)
  marked_so f n m e = record {
    book = e ∙ ap (λ (y : Book). marked y n m) kept.book;
    handed = kept.handed;
    safe = safe_marked l j.book j.out kept.safe n m;
  }

  pub occupied : (f : Frame) (n : ℕ) (r : Result (Unit {0}) BoxFault) → Marking l n (refusal r) → OnErr r (f ≡ x.frame)
      → OnOk r (view f ≡ marked b n true) → Noted l j (Occupied n r) (with_frame f)
  occupied f n (Ok u) told same e = record { demanded = told; kept = marked_so f n true e }
  occupied f n (Err y) told same e = record { demanded = told; kept = same_frame f same }

  pub cleared : (f : Frame) (n : ℕ) (r : Result (Unit {0}) BoxFault) → Marking l n (refusal r) → OnErr r (f ≡ x.frame)
      → OnOk r (view f ≡ marked b n false) → Noted l j (Cleared n r) (with_frame f)
  cleared f n (Ok u) told same e = record { demanded = told; kept = marked_so f n false e }
  cleared f n (Err y) told same e = record { demanded = told; kept = same_frame f same }

  pub opened : (f : Frame) (s : List ℕ) (r : Result Slip BoxFault) → Opening l b s (refusal r) → IfOk r (λ k. k.serial ≡ b.given + 1) → OnErr r (f ≡ x.frame)
      → IfOk r (λ k. view f ≡ opened_with b k.serial (entries_of s)) → Noted l j (Opened s (serial_given r)) (with_frame f)
  opened f s (Ok k) told serial same e =
      let d = by_book (λ y. Opening l y s None) told in
      let n = serial ∙ ap (λ (y : Book). y.given + 1) kept.book in
      let S : ℕ → Type 0 = λ m. Safe l (opened_with j.book m (entries_of s)) (j.out ++ m ∷ []) in
      record {
        demanded = (d, n);
        kept = record {
          book = e ∙ ap (λ (y : Book). opened_with y k.serial (entries_of s)) kept.book;
          handed = kept.handed;
          safe = subst S (sym n) (safe_opened l j.book j.out kept.safe (entries_of s) d.0.1 d.1.0 d.1.1.0);
        };
      }
  opened f s (Err y) told serial same e = record { demanded = (by_book (λ z. Opening l z s (Some y)) told, tt); kept = same_frame f same }

  pub released : (f : Frame) (slip : Slip) (r : Result (Unit {0}) (BoxFault × Slip)) → Releasing b slip.serial (kept_refusal r)
      → IfErr r (λ y. (y.1 ≡ slip) × (f ≡ x.frame)) → OnOk r (view f ≡ closed_at b slip.serial) → Noted l j (Released slip.serial (unkept r)) (with_frame f)
  released f slip (Ok u) told back e = record {
    demanded = by_book (λ y. Releasing y slip.serial None) told;
    kept = record {
      book = e ∙ ap (λ (y : Book). closed_at y slip.serial) kept.book;
      handed = kept.handed;
      safe = safe_closed l j.book j.out kept.safe slip.serial;
    };
  }
  released f slip (Err y) told back e = record { demanded = by_book (λ z. Releasing z slip.serial (Some y.0)) told; kept = same_frame f back.1 }
