-- The bounds of a position's path, whatever the plan.
use Rattle.std.proofs.Common.{◌≡◌, ℕ, ◌+◌, ◌<◌, ◌≤◌, List, [], ◌∷◌, ◌++◌, length, get_or, sym, refl, ap, ◌∙◌, subst, ⊎_elim, arith, length-append}
use Rattle.std.proofs.lemmas.List.{length_push, get_or_push, get_or_at, get_or_append_left, get_or-take, length-take-le}
use Rattle.std.proofs.lemmas.Bool.{cases_lt}
use Rattle.route.proofs.Lex.{before_child, before_back, before_raise}
use Rattle.search.specs.declared.position.Position.{Position}
use Rattle.search.specs.View.{path_of}
use Rattle.search.proofs.Heights.{Within, height, height_falls}

path_length : (p : Position) → length (path_of p) ≡ p.path.len
path_length p = length-take-le p.path.len p.path.cells (omega (arith, p.path.within, p.path.whole))

pub path_small : (p : Position) (i : ℕ) → i < length (path_of p) → get_or (path_of p) i 0 < 2048
path_small p i h =
    let k : i < p.path.len = omega (arith, path_length p) in
    let e = get_or-take p.path.len p.path.cells i 0 k in
    let s = p.path.small i k in
    omega arith

path_short : (p : Position) → length (path_of p) ≤ 512
path_short p = omega (arith, path_length p, p.path.within)

-- an entry that was taken off, with those behind it, was a path's
pub taken_small : (p : Position) (q t : List ℕ) (e : ℕ) → path_of p ≡ q ++ e ∷ t → e < 2048
taken_small p q t e h =
    let n : length q < length (path_of p) = omega (arith, ap length h, length-append q (e ∷ t)) in
    let k = ap (λ x. get_or x (length q) 0) h ∙ get_or_at q e t 0 (length q) refl in
    let s = path_small p (length q) n in
    omega arith

-- how much is left to search from the entry `f` on below the path
abbrev pub left : List ℕ → ℕ → ℕ
left q f = height 2048 513 (q ++ f ∷ [])

inside : (p : Position) (f : ℕ) → f ≤ 2048 → Within 2048 (path_of p ++ f ∷ [])
inside p f few i n =
    let q = path_of p in
    let s = length_push q f in
    ⊎_elim
    (λ (b : i < length q). let e = get_or_append_left q (f ∷ []) 0 i b in let d = path_small p i b in omega arith)
    (λ (b : length q ≤ i). let z : length q ≡ i = omega arith in let e = get_or_push q f 0 i z in omega arith)
    (cases_lt i (length q))

-- each turn leaves less to search: further down
pub falls_down : (p p' : Position) (f e g : ℕ) → f ≤ 2048 → f ≤ e → path_of p' ≡ path_of p ++ e ∷ [] → left (path_of p') g < left (path_of p) f
falls_down p p' f e g few low pushed =
    let q = path_of p in
    let short = path_short p' in
    let L : List ℕ → Type 0 = λ x. left x g < left q f in
    subst L (sym pushed)
    (height_falls 2048 513 (q ++ f ∷ []) ((q ++ e ∷ []) ++ g ∷ []) (inside p f few)
    (omega (arith, length_push (q ++ e ∷ []) g, ap length pushed))
    (before_raise (q ++ f ∷ []) (q ++ e ∷ []) 0 g (omega arith) (before_child q f e low)))

-- or back
pub falls_back : (p : Position) (q t : List ℕ) (f e : ℕ) → f ≤ 2048 → path_of p ≡ q ++ e ∷ t → left q (e + 1) < left (path_of p) f
falls_back p q t f e few taken =
    let short = path_short p in
    let L : List ℕ → Type 0 = λ x. Within 2048 (x ++ f ∷ []) in
    let M : List ℕ → Type 0 = λ x. left q (e + 1) < left x f in
    subst M (sym taken)
    (height_falls 2048 513 ((q ++ e ∷ t) ++ f ∷ []) (q ++ (e + 1) ∷ []) (subst L taken (inside p f few))
    (omega (arith, length-append q (e ∷ t), length_push q (e + 1), ap length taken)) (before_back q t e f))
