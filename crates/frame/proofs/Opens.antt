-- The open routes of a frame as rows of its book.
use Rattle.std.proofs.Common.{◌≡◌, ℕ, suc, ◌<◌, Bool, true, false, List, [], ◌∷◌, ◌++◌, MatchBool, map, length, take, drop, sym, ap, ◌∙◌, subst, arith}
use Rattle.std.proofs.lemmas.List.{length-map, get_or-map, map-append, take-map, drop-map}
use Rattle.std.specs.List.{remove, HoldsAt, AllWithin}
use Rattle.row.specs.View.{entries}
use Rattle.frame.specs.declared.open_route.OpenRoute.{OpenRoute}
use Rattle.frame.specs.Book.{OpenRow}
use Rattle.frame.specs.Calls.{OnRow, Held, no_row}
use Rattle.frame.specs.View.{open_row, open_rows}

abbrev pub OnRoute : ℕ → OpenRoute → Type 0
OnRoute c x = OnRow (entries x.row) c

pub held : (rs : List OpenRoute) (c : ℕ) (r : Bool)
    → MatchBool r ((k : ℕ) × (k < length rs) × HoldsAt (OnRoute c) rs k) (AllWithin (λ x. OnRoute c x → ⊥) rs 0 (length rs))
    → MatchBool r (Held (open_rows rs) c) (Held (open_rows rs) c → ⊥)
held [] c true h = let k = h.1 in absurd (omega arith)
held [] c false h = λ o. let k = o.1 in omega arith
held (x ∷ xs) c true h =
    let F : OpenRow → Type 0 = λ r. OnRow r.entries c in
    (h.0, simp length-map h.1, subst F (sym (get_or-map open_row (x ∷ xs) h.0 x no_row h.1)) (h.2 x))
held (x ∷ xs) c false h = λ o.
    let F : OpenRow → Type 0 = λ r. OnRow r.entries c in
    let k = o.1 in
    let n = length-map (x ∷ xs) open_row in
    let low : o.0 < length (x ∷ xs) = omega arith in
    h o.0 x (omega arith) low (subst F (get_or-map open_row (x ∷ xs) o.0 x no_row low) o.2)

pub map_removed : {X Y : Type 0} (f : X → Y) (i : ℕ) (xs : List X) → map f (remove xs i) ≡ remove (map f xs) i
map_removed f i xs =
    map-append f (take i xs) (drop (suc i) xs)
    ∙ ap (λ ys. ys ++ map f (drop (suc i) xs)) (sym (take-map f i xs))
    ∙ ap (λ ys. take i (map f xs) ++ ys) (sym (drop-map f (suc i) xs))
