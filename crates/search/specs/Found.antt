-- What the search for the next route answers.
use Rattle.std.specs.Prelude.{◌≡◌, ℕ, ◌<◌, ◌≤◌, Bool, true, false, ◌⊎◌, List, [], ◌∷◌, ◌++◌, Some, None, Option}
use Rattle.plan.specs.Layout.{Layout}
use Rattle.route.specs.Order.{Before}
use Rattle.route.specs.Paths.{Route}
use Rattle.route.specs.Growth.{May, Begun}
use Rattle.search.specs.declared.position.Position.{Position}
use Rattle.search.specs.View.{path_of}

-- the first route after `p` is `q`; or there is none, and `q` is empty
abbrev pub Found : Layout → List ℕ → List ℕ → Bool → Type 0
Found l p q true = Route l q × Before p q × ((r : List ℕ) → Route l r → Before p r → (r ≡ q) ⊎ Before q r)
Found l p q false = (q ≡ []) × ((r : List ℕ) → Route l r → Before p r → ⊥)

-- the least number from `f` on of which P holds, or that there is none
abbrev pub Least : (ℕ → Type 0) → ℕ → Option ℕ → Type 0
Least P f None = (e : ℕ) → P e → e < f
Least P f (Some e) = P e × (f ≤ e) × ((e' : ℕ) → P e' → f ≤ e' → e ≤ e')

-- one entry more on the path, the least from `f` on that may stand there; or there is none, and nothing moved
abbrev pub Descended : Layout → ℕ → Position → Position → Option ℕ → Type 0
Descended l f p q (Some e) = (path_of q ≡ path_of p ++ e ∷ []) × (f ≤ e) × (Begun l (path_of p) → Least (May l (path_of p)) f (Some e))
Descended l f p q None = (q ≡ p) × (Begun l (path_of p) → Least (May l (path_of p)) f None)
