-- What bytes, words and entries have to do with each other.
use Rattle.std.proofs.Common.{◌≡◌, ℕ, zero, suc, ◌+◌, ◌*◌, ◌/◌, ◌%◌, ◌<◌, ◌≤◌, Bool, true, false, ◌&&◌, eqb, ltb, leb, List, [], ◌∷◌, ◌++◌, length, get_or, take, drop, map, sym, refl, ap, ◌∙◌, ⊎_elim, arith}
use Rattle.std.specs.Simd.{first_chunks}
use Rattle.std.proofs.lemmas.List.{append_assoc, append-nil, at_drop_more, drop_all, drop_more, drop-drop, get_or-append-add, get_or-drop, get_or-map, get_or-take, ext_get_or}
use Rattle.std.proofs.lemmas.Bool.{and_from, and_parts, cases_Bool, eq-eqb, eqb-true, le-leb, leb-true, ltb-true}
use Rattle.numbers.specs.Stored.{number, word}
use Rattle.row.specs.Row.{entry_ok, all_ok, is_entries, words, bytes_of, numbers_from, entries_of, is_row}
use Rattle.row.specs.Laws.{WrittenRead, ReadWritten}

-- every entry, place by place
pub ok_at : (es : List ℕ) → all_ok es ≡ true → (i : ℕ) → i < length es → entry_ok (get_or es i 0) ≡ true
unfolding all_ok
ok_at [] h i l = absurd (omega arith)
ok_at (e ∷ es) h zero l = (and_parts (entry_ok e) (all_ok es) h).0
ok_at (e ∷ es) h (suc i) l = ok_at es (and_parts (entry_ok e) (all_ok es) h).1 i (omega arith)

pub ok_from : (es : List ℕ) → ((i : ℕ) → i < length es → entry_ok (get_or es i 0) ≡ true) → all_ok es ≡ true
unfolding all_ok
ok_from [] h = refl
ok_from (e ∷ es) h = and_from (entry_ok e) (all_ok es) (h 0 (omega arith)) (ok_from es (λ i l. h (suc i) (omega arith)))

and_assoc : (a b c : Bool) → ((a && b) && c) ≡ (a && (b && c))
and_assoc true b c = refl
and_assoc false b c = refl

and_true : (a : Bool) → (a && true) ≡ a
and_true true = refl
and_true false = refl

-- a loop over the entries
step : (es : List ℕ) (i : ℕ) → i < length es → all_ok (drop i es) ≡ (entry_ok (get_or es i 0) && all_ok (drop (i + 1) es))
unfolding all_ok
step es i h = at_drop_more all_ok es i 0 h

-- `good` tells of the entries before the place
pub good_more : (es : List ℕ) (i : ℕ) (good : Bool) → i < length es → (good && all_ok (drop i es)) ≡ all_ok es → ((good && entry_ok (get_or es i 0)) && all_ok (drop (i + 1) es)) ≡ all_ok es
good_more es i good h left = and_assoc good (entry_ok (get_or es i 0)) (all_ok (drop (i + 1) es)) ∙ ap (λ b. good && b) (sym (step es i h)) ∙ left

pub good_ends : (es : List ℕ) (i : ℕ) (good : Bool) → length es ≤ i → (good && all_ok (drop i es)) ≡ all_ok es → 2 ≤ length es → length es ≤ 512 → good ≡ is_entries es
unfolding all_ok
good_ends es i good h left two many =
    let a : good ≡ all_ok es = sym (and_true good) ∙ sym (ap (λ x. good && all_ok x) (drop_all i es h)) ∙ left in
    a ∙ sym (ap (λ b. b && (leb (length es) 512 && all_ok es)) (le-leb _ _ two) ∙ ap (λ b. b && all_ok es) (le-leb _ _ many))

pub length_words : (es : List ℕ) → length (words es) ≡ 2 * length es
unfolding words
length_words [] = refl
length_words (e ∷ es) = let h = length_words es in omega arith

pub words_push : (es : List ℕ) (e : ℕ) → words (es ++ e ∷ []) ≡ words es ++ word e
unfolding words
words_push [] e = refl
words_push (x ∷ es) e = ap (λ w. word x ++ w) (words_push es e)

pub length_numbers : (s : List ℕ) (p n : ℕ) → length (numbers_from s p n) ≡ n
unfolding numbers_from
length_numbers s p zero = refl
length_numbers s p (suc n) = ap suc (length_numbers s (p + 2) n)

pub number_from : (s : List ℕ) (p n i : ℕ) → i < n → get_or (numbers_from s p n) i 0 ≡ number s (p + 2 * i)
unfolding numbers_from
number_from s p zero i h = absurd (omega arith)
number_from s p (suc n) zero h = let e : p + 2 * 0 ≡ p = omega arith in sym (ap (number s) e)
number_from s p (suc n) (suc i) h =
    let e : p + 2 + 2 * i ≡ p + 2 * suc i = omega arith in number_from s (p + 2) n i (omega arith) ∙ ap (number s) e

pub length_entries : (s : List ℕ) → length (entries_of s) ≡ number s 0
unfolding entries_of
length_entries s = length_numbers s 2 (number s 0)

pub entry_at : (s : List ℕ) (i : ℕ) → i < number s 0 → get_or (entries_of s) i 0 ≡ number s (2 + 2 * i)
unfolding entries_of
entry_at s i h = number_from s 2 (number s 0) i h

-- the two bytes of a number are the number
word_number : (n : ℕ) (s : List ℕ) → number (word n ++ s) 0 ≡ n
word_number n s = omega arith

-- behind the first two bytes
number_behind : (a b : ℕ) (s : List ℕ) (i : ℕ) → number (a ∷ (b ∷ s)) (2 + i) ≡ number s i
number_behind a b s i =
    let low = get_or-append-add (a ∷ (b ∷ [])) s i 0 in
    let high : get_or (a ∷ (b ∷ s)) (2 + i + 1) 0 ≡ get_or s (i + 1) 0 =
    let e : 2 + i + 1 ≡ 2 + (i + 1) = omega arith in
    ap (λ k. get_or (a ∷ (b ∷ s)) k 0) e ∙ get_or-append-add (a ∷ (b ∷ [])) s (i + 1) 0 in
    omega arith

number_words : (es : List ℕ) (i : ℕ) → i < length es → number (words es) (2 * i) ≡ get_or es i 0
unfolding words
number_words [] i h = absurd (omega arith)
number_words (e ∷ es) zero h = word_number e (words es)
number_words (e ∷ es) (suc i) h =
    let q : 2 * suc i ≡ 2 + 2 * i = omega arith in
    ap (number (word e ++ words es)) q ∙ number_behind (e % 256) (e / 256) (words es) (2 * i) ∙ number_words es i (omega arith)

pub read_back : (es : List ℕ) → entries_of (bytes_of es) ≡ es
read_back es =
    let k = word_number (length es) (words es) in
    let n : length (entries_of (bytes_of es)) ≡ length es = length_entries (bytes_of es) ∙ k in
    ext_get_or 0 _ _ n (λ i h.
    let l : i < number (bytes_of es) 0 = omega arith in
    entry_at (bytes_of es) i l ∙ number_behind (length es % 256) (length es / 256) (words es) (2 * i) ∙ number_words es i (omega arith))

pub length_bytes : (es : List ℕ) → length (bytes_of es) ≡ 2 + 2 * length es
length_bytes es = let l = length_words es in omega arith

pub written_read : WrittenRead
unfolding WrittenRead
written_read es h =
    let n : length (bytes_of es) ≡ 2 + 2 * number (bytes_of es) 0 = let l = length_bytes es in let k = word_number (length es) (words es) in omega arith in
    let e : is_entries (entries_of (bytes_of es)) ≡ true = ap is_entries (read_back es) ∙ h in
    (and_from _ _ (eq-eqb _ _ n) e, read_back es, length_bytes es)

-- the two bytes at a place are the word of the number there
word_at : (s : List ℕ) (p : ℕ) → ((i : ℕ) → get_or s i 0 < 256) → word (number s p) ≡ get_or s p 0 ∷ (get_or s (p + 1) 0 ∷ [])
word_at s p bytes =
    let low = bytes p in
    let a : number s p % 256 ≡ get_or s p 0 = omega arith in
    let b : number s p / 256 ≡ get_or s (p + 1) 0 = omega arith in
    rw (a, b)

words_numbers : (s : List ℕ) (p n : ℕ) → ((i : ℕ) → get_or s i 0 < 256) → p + 2 * n ≤ length s → words (numbers_from s p n) ++ drop (p + 2 * n) s ≡ drop p s
unfolding words numbers_from
words_numbers s p zero bytes h = let e : p + 2 * 0 ≡ p = omega arith in ap (λ m. drop m s) e
words_numbers s p (suc n) bytes h =
    let e : p + 2 * suc n ≡ p + 2 + 2 * n = omega arith in
    let q : p + 1 + 1 ≡ p + 2 = omega arith in
    let one = drop_more s p 0 (omega arith) in
    let two = drop_more s (p + 1) 0 (omega arith) in
    let rest = words_numbers s (p + 2) n bytes (omega arith) in
    let first = word_at s p bytes in
    ap (λ m. (word (number s p) ++ words (numbers_from s (p + 2) n)) ++ drop m s) e
    ∙ append_assoc (word (number s p)) (words (numbers_from s (p + 2) n)) (drop (p + 2 + 2 * n) s)
    ∙ ap (λ d. word (number s p) ++ d) rest
    ∙ ap (λ w. w ++ drop (p + 2) s) first
    ∙ sym (one ∙ ap (λ d. get_or s p 0 ∷ d) (two ∙ ap (λ m. get_or s (p + 1) 0 ∷ drop m s) q))

pub read_written : ReadWritten
unfolding entries_of ReadWritten
read_written s h bytes =
    let parts = and_parts _ _ h in
    let n : length s ≡ 2 + 2 * number s 0 = eqb-true _ _ parts.0 in
    let all = words_numbers s 2 (number s 0) bytes (omega arith) in
    let none : drop (2 + 2 * number s 0) s ≡ [] = drop_all _ s (omega arith) in
    let w : words (entries_of s) ≡ drop 2 s = sym (append-nil _) ∙ ap (λ d. words (entries_of s) ++ d) (sym none) ∙ all in
    let one = drop_more s 0 0 (omega arith) in
    let two = drop_more s 1 0 (omega arith) in
    let c : word (length (entries_of s)) ≡ get_or s 0 0 ∷ (get_or s 1 0 ∷ []) = ap word (length_entries s) ∙ word_at s 0 bytes in
    (parts.1, ap (λ d. word (length (entries_of s)) ++ d) w ∙ ap (λ v. v ++ drop 2 s) c ∙ sym (one ∙ ap (λ d. get_or s 0 0 ∷ d) two))

-- what the tests say
pub entry_parts : (e : ℕ) → entry_ok e ≡ true → (e < 2048) × (e % 4 < 3)
entry_parts e h = let p = and_parts (ltb e 2048) (ltb (e % 4) 3) h in (ltb-true _ _ p.0, ltb-true _ _ p.1)

pub entries_parts : (es : List ℕ) → is_entries es ≡ true →
    (2 ≤ length es) × (length es ≤ 512) × ((i : ℕ) → i < length es → entry_ok (get_or es i 0) ≡ true)
entries_parts es h =
    let lows = and_parts (leb 2 (length es)) (leb (length es) 512 && all_ok es) h in
    let highs = and_parts (leb (length es) 512) (all_ok es) lows.1 in
    (leb-true _ _ lows.0, leb-true _ _ highs.0, ok_at es highs.1)

pub row_parts : (s : List ℕ) → is_row s ≡ true →
    (length s ≡ 2 + 2 * number s 0) × (2 ≤ number s 0) × (number s 0 ≤ 512) × ((i : ℕ) → i < number s 0 → entry_ok (number s (2 + 2 * i)) ≡ true)
row_parts s h =
    let parts = and_parts (eqb (length s) (2 + 2 * number s 0)) (is_entries (entries_of s)) h in
    let n = length_entries s in
    let es = entries_parts (entries_of s) parts.1 in
    let low : 2 ≤ length (entries_of s) = es.0 in
    let high : length (entries_of s) ≤ 512 = es.1 in
    (eqb-true _ _ parts.0, omega arith, omega arith, λ i l. ap entry_ok (sym (entry_at s i l)) ∙ es.2 i (omega arith))

-- bytes whose length or count rules a row out
pub no_row : (s : List ℕ) → (length s ≡ 2 + 2 * number s 0 → 2 ≤ number s 0 → number s 0 ≤ 512 → ⊥) → is_row s ≡ false
no_row s h =
    ⊎_elim (λ (t : is_row s ≡ true). let p = row_parts s t in absurd (h p.0 p.1 p.2)) (λ f. f) (cases_Bool (is_row s))

-- the numbers behind the count, as pairs of bytes
pub pairs_numbers : (s : List ℕ) (p k : ℕ) → p + 2 * k ≤ length s → map (λ pair. number pair 0) (first_chunks 2 k (drop p s)) ≡ numbers_from s p k
unfolding numbers_from
pairs_numbers s p zero h = refl
pairs_numbers s p (suc k) h =
    let q : p + 0 ≡ p = omega arith in
    let low = get_or-take 2 (drop p s) 0 0 (omega arith) ∙ get_or-drop p s 0 0 ∙ ap (λ k. get_or s k 0) q in
    let high = get_or-take 2 (drop p s) 1 0 (omega arith) ∙ get_or-drop p s 1 0 in
    let here : number (take 2 (drop p s)) 0 ≡ number s p = λ i. low i + 256 * high i in
    let rest = ap (λ d. map (λ pair. number pair 0) (first_chunks 2 k d)) (drop-drop 2 p s) ∙ pairs_numbers s (p + 2) k (omega arith) in
    λ i. here i ∷ rest i

pub pair_at : (s : List ℕ) (pairs : List (List ℕ)) (k i : ℕ) → map (λ pair. number pair 0) pairs ≡ numbers_from s 2 k → i < length pairs → i < k →
    get_or (get_or pairs i []) 0 0 + get_or (get_or pairs i []) 1 0 * 256 ≡ number s (2 + 2 * i)
pair_at s pairs k i all h l =
    let here = get_or-map (λ pair. number pair 0) pairs i [] 0 h in
    let there = ap (λ xs. get_or xs i 0) all ∙ number_from s 2 k i l in
    omega arith
