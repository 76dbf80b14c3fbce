-- The register from one call to the next.
use Rattle.std.proofs.Common.{◌≡◌, ℕ, ◌<◌, Bool, true, false, List, [], ◌∷◌, ◌++◌, length, Err, sym, ap, subst, inl, inr, ⊎_elim, arith}
use Rattle.fault.specs.declared.kinds.BoxFault.{BoxFault}
use Rattle.fault.specs.declared.kinds.BoxFault.TheVariants.{ShortSpace}
use Rattle.row.specs.Row.{bytes_of}
use Rattle.plan.specs.Layout.{Layout}
use Rattle.route.specs.Paths.{Route}
use Rattle.route.specs.Growth.{May, Begun}
use Rattle.route.proofs.Growth.{grown_none}
use Rattle.route.proofs.Places.{path_begun}
use Rattle.search.specs.Found.{Found}
use Rattle.register.specs.Routes.{FirstRoutes, NextRoute, AllOut}
use Rattle.register.specs.declared.registers.Register.{Register}
use Rattle.register.specs.Handed.{Stands, Turned}
use Rattle.register.proofs.Handing.{next_first, none_at_all, next_more, none_more}

filled : (l : Layout) (q : List ℕ) → Route l q → 0 < length q
filled l q t = let h = t.1.0 in omega arith

-- a search from the empty list
pub stands_first : (l : Layout) (p q : List ℕ) (b : Bool) → p ≡ [] → (Begun l p → Found l p q b) → Stands l [] q
stands_first l p q b e f =
    let G : List ℕ → Type 0 = λ x. Begun l x → Found l x q b in
    stand b (subst G e f (grown_none (May l)))
  where
    stand : (b : Bool) → Found l [] q b → Stands l [] q
    stand true f = inr (filled l q f.0, next_first l q f)
    stand false f = inl (f.0, none_at_all l q f)

-- a search from the row that was handed out
pub stands_more : (l : Layout) (rows : List (List ℕ)) (row q : List ℕ) (b : Bool) → FirstRoutes l rows → NextRoute l rows row → (Begun l row → Found l row q b) → Stands l (rows ++ row ∷ []) q
stands_more l rows row q b first next f = stand b (f (path_begun l row next.route.0))
  where
    stand : (b : Bool) → Found l row q b → Stands l (rows ++ row ∷ []) q
    stand true f = inr (filled l q f.0, next_more l rows row first next q f)
    stand false f = inl (f.0, none_more l rows row first next q f)

-- the next row, where the register does not stand at the end
pub stands_next : (l : Layout) (rows : List (List ℕ)) (q : List ℕ) → Stands l rows q → (length q ≡ 0 → ⊥) → NextRoute l rows q
stands_next l rows q s n =
    ⊎_elim (λ (h : (q ≡ []) × AllOut l rows). absurd (n (ap length h.0))) (λ h. h.1) s

-- a turn that is refused for want of space
pub turned_short : {P : Type 0} (l : Layout) (rows : List (List ℕ)) (space space' : List ℕ) (g : Register P) (e : BoxFault) (row : List ℕ) → e ≡ ShortSpace → NextRoute l rows row → length rows < 65535 → length space < length (bytes_of row) → Turned l rows space space' g (Err e)
turned_short l rows space space' g e row h next few short =
    let T : BoxFault → Type 0 = λ x. Turned l rows space space' g (Err x) in
    subst T (sym h) (row, next, few, short)
