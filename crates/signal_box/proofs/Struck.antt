-- The open rows without the one of a serial, in their old order.
use Rattle.std.proofs.Common.{◌≡◌, ℕ, zero, suc, ◌<◌, Bool, true, false, cond, eqb, List, [], ◌∷◌, map, length, get_or, refl, ap, ◌∙◌, suc-le-suc, arith}
use Rattle.frame.specs.Book.{OpenRow, struck}
use Rattle.frame.specs.Calls.{no_row}
use Rattle.signal_box.specs.Journal.{without}

-- each element of a list is one of another, in the same order: `up` gives the places
pub record Embeds {X : Type 0} (d : X) (xs ys : List X) : Type 0 where
  pub up : ℕ → ℕ
  pub inside : (k : ℕ) → k < length xs → up k < length ys
  pub same : (k : ℕ) → k < length xs → get_or xs k d ≡ get_or ys (up k) d
  pub rises : (i k : ℕ) → i < k → k < length xs → up i < up k

module _ {X : Type 0} (d : X) (x : X) (xs ys : List X) where
  without_first : Embeds d ys (x ∷ ys)
  without_first = record { up = suc; inside = λ k h. suc-le-suc h; same = λ k h. refl; rises = λ i k h l. suc-le-suc h }

  abbrev places : (ℕ → ℕ) → ℕ → ℕ
  places up zero = zero
  places up (suc k) = suc (up k)

  with_first : Embeds d xs ys → Embeds d (x ∷ xs) (x ∷ ys)
  with_first e = record { up = places e.up; inside = inside; same = same; rises = rises }
    where
      inside : (k : ℕ) → k < length (x ∷ xs) → places e.up k < length (x ∷ ys)
      inside zero h = omega arith
      inside (suc k) h = suc-le-suc (e.inside k (omega arith))

      same : (k : ℕ) → k < length (x ∷ xs) → get_or (x ∷ xs) k d ≡ get_or (x ∷ ys) (places e.up k) d
      same zero h = refl
      same (suc k) h = e.same k (omega arith)

      rises : (i k : ℕ) → i < k → k < length (x ∷ xs) → places e.up i < places e.up k
      rises i zero h l = absurd (omega arith)
      rises zero (suc k) h l = omega arith
      rises (suc i) (suc k) h l = suc-le-suc (e.rises i k (omega arith) (omega arith))

  pub embeds_cond : (b : Bool) → Embeds d xs ys → Embeds d (cond b ys (x ∷ xs)) (x ∷ ys)
  embeds_cond true e = without_first
  embeds_cond false e = with_first e

pub struck_embeds : (s : ℕ) (rs : List OpenRow) → Embeds no_row (struck s rs) rs
struck_embeds s [] = record { up = λ k. k; inside = λ k h. h; same = λ k h. refl; rises = λ i k h l. h }
struck_embeds s (r ∷ rs) = embeds_cond no_row r (struck s rs) rs (eqb r.serial s) (struck_embeds s rs)

-- the serials of those rows
abbrev pub serials : List OpenRow → List ℕ
serials rs = map (λ r. r.serial) rs

map_cond : (b : Bool) (xs ys : List OpenRow) → cond b (serials xs) (serials ys) ≡ serials (cond b xs ys)
map_cond true xs ys = refl
map_cond false xs ys = refl

pub struck_serials : (s : ℕ) (rs : List OpenRow) → without s (serials rs) ≡ serials (struck s rs)
struck_serials s [] = refl
struck_serials s (r ∷ rs) =
    ap (λ (ns : List ℕ). cond (eqb r.serial s) (serials rs) (r.serial ∷ ns)) (struck_serials s rs)
    ∙ map_cond (eqb r.serial s) rs (r ∷ struck s rs)
