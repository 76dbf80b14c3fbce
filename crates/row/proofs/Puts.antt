-- Writing one text after another is writing both.
use Rattle.std.proofs.Common.{◌≡◌, ℕ, suc, ◌+◌, ◌<◌, ◌≤◌, List, [], ◌∷◌, ◌++◌, length, take, drop, set, Ok, Err, sym, ap, ◌∙◌, add_assoc, zero-add, arith, length-append, length-drop}
use Rattle.std.proofs.lemmas.List.{append_assoc, take-append-drop, length-take-le, take_at, drop_at, drop-drop, set_split}
use Rattle.std.proofs.lemmas.Bool.{cond-true, cond-false, lt-ltb, le-ltb}
use Rattle.fault.specs.declared.kinds.BoxFault.TheVariants.{ShortSpace}
use Rattle.row.specs.Put.{put, text_told, text_left}

-- nothing written
pub put_none : (s : List ℕ) (p : ℕ) → put s p [] ≡ s
unfolding put
put_none s p = let e : p + 0 ≡ p = omega arith in ap (λ n. take p s ++ drop n s) e ∙ take-append-drop p s

-- one byte written
pub put_one : (s : List ℕ) (p b : ℕ) → p < length s → set s p b ≡ put s p (b ∷ [])
unfolding put
put_one s p b h = let e : suc p ≡ p + 1 = omega arith in set_split s p b h ∙ ap (λ n. take p s ++ b ∷ drop n s) e

pub length_put : (s : List ℕ) (p : ℕ) (t : List ℕ) → p + length t ≤ length s → length (put s p t) ≡ length s
unfolding put
length_put s p t h =
    let l = length-take-le p s (omega arith) in
    simp (length-append, length-drop) (omega arith)

-- what is written next
pub put_more : (s : List ℕ) (p : ℕ) (t u : List ℕ) → p + length t ≤ length s → put (put s p t) (p + length t) u ≡ put s p (t ++ u)
unfolding put
put_more s p t u h =
    let a = take p s in
    let r = drop (p + length t) s in
    let l = length-take-le p s (omega arith) in
    let g : take p s ++ (t ++ r) ≡ (a ++ t) ++ r = sym (append_assoc a t r) in
    let n : length (a ++ t) ≡ p + length t = length-append a t ∙ ap (λ m. m + length t) l in
    let front : take (p + length t) (a ++ (t ++ r)) ≡ a ++ t = ap (take (p + length t)) g ∙ take_at (a ++ t) r (p + length t) n in
    let back : drop (p + length t) (a ++ (t ++ r)) ≡ r = ap (drop (p + length t)) g ∙ drop_at (a ++ t) r (p + length t) n in
    let rest : drop (p + length t + length u) (a ++ (t ++ r)) ≡ drop (p + length (t ++ u)) s =
    sym (drop-drop (length u) (p + length t) (a ++ (t ++ r))) ∙ ap (drop (length u)) back ∙ drop-drop (length u) (p + length t) s
    ∙ ap (λ m. drop m s) (add_assoc p (length t) (length u) ∙ ap (λ m. p + m) (sym (length-append t u))) in
    ap (λ f. f ++ (u ++ drop (p + length t + length u) (a ++ (t ++ r)))) front
    ∙ ap (λ d. (a ++ t) ++ (u ++ d)) rest
    ∙ append_assoc a t (u ++ drop (p + length (t ++ u)) s)
    ∙ ap (λ d. a ++ d) (sym (append_assoc t u (drop (p + length (t ++ u)) s)))

-- one byte more
pub put_then : (s : List ℕ) (p : ℕ) (t : List ℕ) (b : ℕ) → p + length t < length s → set (put s p t) (p + length t) b ≡ put s p (t ++ b ∷ [])
put_then s p t b h =
    let l = length_put s p t (omega arith) in put_one (put s p t) (p + length t) b (omega arith) ∙ put_more s p t (b ∷ []) (omega arith)

pub put_two : (s : List ℕ) (p a b : ℕ) → p + 1 < length s → set (set s p a) (p + 1) b ≡ put s p (a ∷ (b ∷ []))
put_two s p a b h = ap (λ x. set x (p + 1) b) (put_one s p a (omega arith)) ∙ put_then s p (a ∷ []) b h

-- a text at the front of a space: what is told and left
pub too_short : (t s : List ℕ) → length s < length t → (Err ShortSpace ≡ text_told t s) × (s ≡ text_left t s)
too_short t s h = let e = lt-ltb (length s) (length t) h in (sym (cond-true _ _ _ e), sym (cond-true _ _ _ e))

pub long_enough : (t s : List ℕ) → length t ≤ length s → (Ok (length t) ≡ text_told t s) × (put s 0 t ≡ text_left t s)
unfolding put
long_enough t s h =
    let e = le-ltb (length s) (length t) h in
    (sym (cond-false _ _ _ e), ap (λ n. t ++ drop n s) (zero-add (length t)) ∙ sym (cond-false _ _ _ e))
