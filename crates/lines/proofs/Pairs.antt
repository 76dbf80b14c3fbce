-- The line of a row, by the pairs of its bytes.
use Rattle.std.proofs.Common.{◌≡◌, ℕ, ◌+◌, ◌*◌, ◌-◌, ◌/◌, ◌<◌, ◌≤◌, true, List, [], ◌∷◌, ◌++◌, length, get_or, take, drop, map, sym, refl, ap, ◌∙◌, subst, arith, length-append, append_assoc}
use Rattle.std.proofs.lemmas.List.{get_or-append-add, get_or_append_left, get_or-map, length-map, take_more, take-append-drop}
use Rattle.std.specs.List.{sum_by}
use Rattle.std.proofs.lemmas.List.Sums.{sum_by-cons}
use Rattle.numbers.specs.Stored.{number}
use Rattle.row.specs.Row.{is_row, entries_of, numbers_from}
use Rattle.row.proofs.Rows.{entry_at, entry_parts, length_entries, row_parts}
use Rattle.lines.specs.Lines.{shown, stop, row_line}

-- entries with a space behind each
abbrev pub spaced : List (List ℕ) → List ℕ
spaced [] = []
spaced (p ∷ ps) = shown (number p 0) ++ (32 ∷ spaced ps)

spaced-append : (ps qs : List (List ℕ)) → spaced (ps ++ qs) ≡ spaced ps ++ spaced qs
spaced-append [] qs = refl
spaced-append (p ∷ ps) qs =
    ap (λ r. shown (number p 0) ++ (32 ∷ r)) (spaced-append ps qs) ∙ sym (append_assoc (shown (number p 0)) (32 ∷ spaced ps) (spaced qs))

pub spaced_more : (ps : List (List ℕ)) (i : ℕ) → i < length ps → spaced (take (i + 1) ps) ≡ spaced (take i ps) ++ (shown (number (get_or ps i []) 0) ++ 32 ∷ [])
spaced_more ps i h = ap spaced (take_more ps i [] h) ∙ spaced-append (take i ps) (get_or ps i [] ∷ [])

pub spaced_front : (ps : List (List ℕ)) (i : ℕ) → length (spaced (take i ps)) ≤ length (spaced ps)
spaced_front ps i =
    let e = ap (λ x. length (spaced x)) (take-append-drop i ps) in
    let s = ap length (spaced-append (take i ps) (drop i ps)) ∙ length-append (spaced (take i ps)) (spaced (drop i ps)) in
    omega arith

stop_more : (ps : List (List ℕ)) (last : List ℕ) → stop (map (λ p. number p 0) (ps ++ last ∷ [])) ≡ 32
stop_more [] last = refl
stop_more (p ∷ ps) last = refl

-- all but the last with a space, and then the end of the line
line_pairs : (ps : List (List ℕ)) (last : List ℕ) → row_line (map (λ p. number p 0) (ps ++ last ∷ [])) ≡ spaced ps ++ (shown (number last 0) ++ 10 ∷ [])
unfolding row_line
line_pairs [] last = refl
line_pairs (p ∷ ps) last =
    (λ i. shown (number p 0) ++ (stop_more ps last i ∷ line_pairs ps last i))
    ∙ sym (append_assoc (shown (number p 0)) (32 ∷ spaced ps) (shown (number last 0) ++ 10 ∷ []))

-- the entries of a row are the numbers of its pairs
pub entries_pairs : (s : List ℕ) (ps : List (List ℕ)) → is_row s ≡ true →
    map (λ p. number p 0) ps ≡ numbers_from s 2 ((length s - 2) / 2) → entries_of s ≡ map (λ p. number p 0) ps
unfolding entries_of
entries_pairs s ps r all =
    let l = (row_parts s r).0 in
    let k : number s 0 ≡ (length s - 2) / 2 = omega arith in
    ap (numbers_from s 2) k ∙ sym all

pair_small : (s : List ℕ) (ps : List (List ℕ)) → is_row s ≡ true →
    map (λ p. number p 0) ps ≡ numbers_from s 2 ((length s - 2) / 2) → (i : ℕ) → i < length ps → number (get_or ps i []) 0 < 2048
pair_small s ps r all i h =
    let e = entries_pairs s ps r all in
    let n : length (entries_of s) ≡ length ps = ap length e ∙ simp length-map in
    let k = length_entries s in
    let here = sym (get_or-map (λ p. number p 0) ps i [] 0 h) ∙ sym (ap (λ es. get_or es i 0) e) ∙ entry_at s i (omega arith) in
    let small : number s (2 + 2 * i) < 2048 = (entry_parts _ ((row_parts s r).3 i (omega arith))).0 in
    omega arith

module _ (s : List ℕ) (ps front : List (List ℕ)) (last : List ℕ) (r : is_row s ≡ true)
    (all : map (λ p. number p 0) ps ≡ numbers_from s 2 ((length s - 2) / 2)) (split : ps ≡ front ++ last ∷ []) where
  pub front_small : (i : ℕ) → i < length front → number (get_or front i []) 0 < 2048
  front_small i h =
      let n = ap length split ∙ length-append front (last ∷ []) in
      let e : get_or ps i [] ≡ get_or front i [] = ap (λ x. get_or x i []) split ∙ get_or_append_left front (last ∷ []) [] i h in
      subst (λ (p : List ℕ). number p 0 < 2048) e (pair_small s ps r all i (omega arith))

  pub last_small : number last 0 < 2048
  last_small =
      let n = ap length split ∙ length-append front (last ∷ []) in
      let e : get_or ps (length front + 0) [] ≡ last = ap (λ x. get_or x (length front + 0) []) split ∙ get_or-append-add front (last ∷ []) 0 [] in
      subst (λ (p : List ℕ). number p 0 < 2048) e (pair_small s ps r all (length front + 0) (omega arith))

  pub row_pairs : row_line (entries_of s) ≡ spaced front ++ (shown (number last 0) ++ 10 ∷ [])
  row_pairs = ap row_line (entries_pairs s ps r all ∙ ap (map (λ p. number p 0)) split) ∙ line_pairs front last

-- how long the line of some pairs is
pub length_pairs : (ps : List (List ℕ)) → length (row_line (map (λ p. number p 0) ps)) ≡ sum_by (λ p. length (shown (number p 0)) + 1) ps
unfolding row_line
length_pairs [] = refl
length_pairs (p ∷ ps) =
    let l = length-append (shown (number p 0)) (stop (map (λ q. number q 0) ps) ∷ row_line (map (λ q. number q 0) ps)) in
    let r = length_pairs ps in
    let s = sum_by-cons (λ q. length (shown (number q 0)) + 1) p ps in
    omega arith
