-- What the records say after one port was made to name another.
use Rattle.std.proofs.Common.{◌≡◌, ℕ, ◌<◌, ◌≤◌, cond, ltb, ◌≢◌, List, length, set, Some, None, Option, sym, refl, ap, ◌∙◌, ⊎_elim, length-set, get_or-set_other, get_or-set_same}
use Rattle.std.proofs.lemmas.List.{get_or_past}
use Rattle.std.proofs.lemmas.Bool.{cases_eq, cases_lt}
use Rattle.std.proofs.lemmas.Option.{get_or_from_slice_get, slice_get-get_or}
use Rattle.std.specs.List.{slice_get}
use Rattle.plan.specs.declared.parts.Direction.TheVariants.{East}
use Rattle.plan.specs.declared.parts.Kind.{Kind}
use Rattle.plan.specs.declared.parts.Kind.TheVariants.{Signal, Straight}
use Rattle.plan.specs.declared.parts.Side.{Side}
use Rattle.plan.specs.declared.parts.Side.TheVariants.{West, East as EastSide, Branch}
use Rattle.plan.specs.declared.parts.Port.{Port}
use Rattle.plan.proofs.Ports.{port_eq}
use Rattle.sheet.specs.declared.component.Component.{Component}
use Rattle.sheet.specs.Records.{blank_component, at, named_at, naming, named, put_in, kinds, sections_of, components_of}

-- functions that agree everywhere are equal
pub ext : {A B : Type 0} (f g : A → B) → ((x : A) → f x ≡ g x) → f ≡ g
ext f g h = λ i x. h x i

pub blank_names : (k : Kind) (s : ℕ) (d : Side) → named_at (blank_component k s) d ≡ None
blank_names k s West = refl
blank_names k s EastSide = refl
blank_names k s Branch = refl

pub past_names : (rs : List Component) (p : Port) → length rs ≤ p.component → named rs p ≡ None
unfolding named
past_names rs p h = ap (λ r. named_at r p.side) (get_or_past rs p.component _ h) ∙ blank_names (Signal East) 0 p.side

-- what a port names, by its component's record
pub names_some : (rs : List Component) (p : Port) (r : Component) → slice_get rs p.component ≡ Some r → named rs p ≡ named_at r p.side
unfolding named
names_some rs p r h = ap (λ x. named_at x p.side) (get_or_from_slice_get rs p.component r _ h)

pub names_none : (rs : List Component) (p : Port) → slice_get rs p.component ≡ None → named rs p ≡ None
names_none rs p h =
    ⊎_elim
    (λ l. let e = slice_get-get_or rs p.component (blank_component (Signal East) 0) l in cc)
    (λ l. past_names rs p l)
    (cases_lt p.component (length rs))

naming_kind : (r : Component) (d : Side) (x : Option Port) → (naming r d x).kind ≡ r.kind
naming_kind r West x = refl
naming_kind r EastSide x = refl
naming_kind r Branch x = refl

naming_section : (r : Component) (d : Side) (x : Option Port) → (naming r d x).section ≡ r.section
naming_section r West x = refl
naming_section r EastSide x = refl
naming_section r Branch x = refl

named_same : (r : Component) (d : Side) (x : Option Port) → named_at (naming r d x) d ≡ x
named_same r West x = refl
named_same r EastSide x = refl
named_same r Branch x = refl

named_other : (r : Component) (d e : Side) (x : Option Port) → e ≢ d → named_at (naming r d x) e ≡ named_at r e
named_other r West West x h = absurd (h refl)
named_other r West EastSide x h = refl
named_other r West Branch x h = refl
named_other r EastSide West x h = refl
named_other r EastSide EastSide x h = absurd (h refl)
named_other r EastSide Branch x h = refl
named_other r Branch West x h = refl
named_other r Branch EastSide x h = refl
named_other r Branch Branch x h = absurd (h refl)

module _ (rs : List Component) (p : Port) (x : Option Port) where
  -- a field that naming keeps stays in every record
  put_keeps : {T : Type 0} (f : Component → T) → f (naming (at rs p.component) p.side x) ≡ f (at rs p.component) → p.component < length rs → (c : ℕ) → f (at (put_in rs p x) c) ≡ f (at rs c)
  unfolding put_in
  put_keeps f e h c =
      let r = naming (at rs p.component) p.side x in
      let d = blank_component (Signal East) 0 in
      ⊎_elim
      (λ q. ap (λ m. f (at (set rs p.component r) m)) q ∙ ap f (get_or-set_same rs p.component r d h) ∙ e ∙ ap (λ m. f (at rs m)) (sym q))
      (λ q. ap f (get_or-set_other rs p.component c r d q))
      (cases_eq c p.component)

  put_kind : p.component < length rs → (c : ℕ) → (at (put_in rs p x) c).kind ≡ (at rs c).kind
  put_kind = put_keeps (λ r. r.kind) (naming_kind (at rs p.component) p.side x)

  put_section : p.component < length rs → (c : ℕ) → (at (put_in rs p x) c).section ≡ (at rs c).section
  put_section = put_keeps (λ r. r.section) (naming_section (at rs p.component) p.side x)

  -- naming a far port changes no component
  pub put_components : (n : ℕ) → p.component < length rs → components_of (put_in rs p x) n ≡ components_of rs n
  put_components n h =
      let k = ext (kinds (put_in rs p x) n) (kinds rs n) (λ c. ap (λ y. cond (ltb c n) y Straight) (put_kind h c)) in
      let s = ext (sections_of (put_in rs p x) n) (sections_of rs n) (λ c. ap (λ y. cond (ltb c n) y 0) (put_section h c)) in
      λ i. record { count = n; kind = k i; section = s i; far = λ q. None }

  pub put_same : p.component < length rs → named (put_in rs p x) p ≡ x
  unfolding put_in named
  put_same h =
      ap (λ r. named_at r p.side) (get_or-set_same rs p.component _ (blank_component (Signal East) 0) h)
      ∙ named_same (at rs p.component) p.side x

  pub put_other : (q : Port) → p.component < length rs → q ≢ p → named (put_in rs p x) q ≡ named rs q
  unfolding put_in named
  put_other q h n =
      let w = naming (at rs p.component) p.side x in
      let d = blank_component (Signal East) 0 in
      ⊎_elim
      (λ e.
      ap (λ m. named_at (at (set rs p.component w) m) q.side) e
      ∙ ap (λ r. named_at r q.side) (get_or-set_same rs p.component w d h)
      ∙ named_other (at rs p.component) p.side q.side x (λ t. n (port_eq q p e t))
      ∙ ap (λ m. named_at (at rs m) q.side) (sym e))
      (λ e. ap (λ r. named_at r q.side) (get_or-set_other rs p.component q.component w d e))
      (cases_eq q.component p.component)

  pub put_length : length (put_in rs p x) ≡ length rs
  unfolding put_in
  put_length = simp length-set

-- one store makes a port name x
pub put_is : (rs : List Component) (i : ℕ) (p : Port) (x : Option Port) (r : Component) → i ≡ p.component → r ≡ naming (at rs i) p.side x → set rs i r ≡ put_in rs p x
unfolding put_in
put_is rs i p x r e h = ap (set rs i) h ∙ ap (λ m. set rs m (naming (at rs m) p.side x)) e
