-- One step down the tree of paths.
use Rattle.std.proofs.Common.{◌≡◌, ℕ, ◌≤◌, Bool, true, false, List, Some, None, Option, refl, subst}
use Rattle.plan.specs.Layout.{Layout, Lawful}
use Rattle.route.specs.Growth.{Begun, Next}
use Rattle.search.specs.declared.position.Position.{Position}
use Rattle.search.specs.View.{path_of, Pushed}
use Rattle.std.specs.Bool.{then_some}
use Rattle.search.specs.Found.{Least, Descended}
use Rattle.search.proofs.Nexts.{least_may, least_full, least_none}

-- `s` is what a slice showed of the position's path
module _ (l : Layout) (w : Lawful l) (f : ℕ) (p : Position) (s : List ℕ) (shown : s ≡ path_of p) where
  found : (o : Option ℕ) → (Begun l s → Least (Next l s) f o) → Begun l (path_of p) → Least (Next l (path_of p)) f o
  found o h = let F : List ℕ → Type 0 = λ q. Begun l q → Least (Next l q) f o in subst F shown h

  pub stayed : (Begun l s → Least (Next l s) f None) → Descended l f p p None
  stayed h = (refl, λ g. least_none l w (path_of p) f (found None h g))

  pub descended : (q : Position) (e : ℕ) (r : Bool) → (Begun l s → Least (Next l s) f (Some e)) → f ≤ e → Pushed p e q r → Descended l f p q (then_some r e)
  descended q e true h k u = (u.0, k, λ g. least_may l w (path_of p) f e (found (Some e) h g) u.1)
  descended q e false h k u = (u.0, λ g. least_full l w (path_of p) f e (found (Some e) h g) u.1 g)
