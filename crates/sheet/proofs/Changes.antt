-- What becomes of the far ports when names change, and of the layout.
use Rattle.std.proofs.Common.{◌≡◌, ℕ, ◌<◌, ◌≤◌, Bool, true, false, cond, ◌≢◌, ◌⊎◌, List, length, is_some, Some, None, Ok, Option, sym, refl, ap, ◌∙◌, subst, inl, inr, ⊎_elim, arith}
use Rattle.std.proofs.lemmas.Bool.{cases_Bool, cond-true, cond-false, both_ways}
use Rattle.plan.specs.declared.parts.Port.{Port}
use Rattle.plan.specs.Layout.{Layout, is_port, opposed, told, same_port, leads_to}
use Rattle.plan.proofs.Ports.{ports_same, port_self, port_below, led}
use Rattle.sheet.specs.declared.component.Component.{Component}
use Rattle.sheet.specs.Records.{named, put_in, components_of}
use Rattle.sheet.specs.Connections.{may_connect, far_in, layout_of, connected, disconnected}
use Rattle.sheet.specs.Laws.{opposed_parts, may_parts, may_from, may_back, far_says, says_far, far_back}
use Rattle.sheet.proofs.Puts.{ext, put_components, put_same, put_other, put_length}

pub never_some : (o : Option Port) (p : Port) → o ≡ None → o ≡ Some p → ⊥
never_some o p h k = let z : ◌≡◌ {A = ℕ} 0 1 = cc in omega arith

pub inner : (o : Option Port) (p q : Port) → o ≡ Some p → o ≡ Some q → p ≡ q
inner o p q h k = cc

pub is_none : (o : Option Port) → is_some o ≡ false → o ≡ None
is_none None e = refl
is_none (Some x) e = cc

same_true : (p q : Port) → p ≡ q → same_port p q ≡ true
same_true p q e = ap (same_port p) (sym e) ∙ port_self p

cases_port : (p q : Port) → (p ≡ q) ⊎ (p ≢ q)
cases_port p q =
    ⊎_elim
    (λ e. inl (ports_same p q e))
    (λ e. inr (λ t. both_ways (same_port p q) e (same_true p q t)))
    (cases_Bool (same_port p q))

same_false : (p q : Port) → p ≢ q → same_port p q ≡ false
same_false p q n = ⊎_elim (λ e. absurd (n (ports_same p q e))) (λ e. e) (cases_Bool (same_port p q))

option_ext : (o g : Option Port) → ((q : Port) → o ≡ Some q → g ≡ Some q) → ((q : Port) → g ≡ Some q → o ≡ Some q) → o ≡ g
option_ext None None to from = refl
option_ext None (Some q) to from = from q refl
option_ext (Some q) g to from = sym (to q refl)

-- what is told of a port says that it exists
pub told_ok : {T : Type 0} (exists : Bool) (x y : T) → told exists x ≡ Ok y → (exists ≡ true) × (x ≡ y)
told_ok true x y h = (refl, cc)
told_ok false x y h = (cc, cc)

module _ (l : Layout) (names : Port → Option Port) (p : Port) where
  pub far_none : ((q : Port) → names p ≡ Some q → may_connect l p q ≡ true → ⊥) → far_in l names p ≡ None
  far_none h = none_of (far_in l names p) (λ q e. let s = far_says l names p q e in h q s.0 s.2)
    where
      none_of : (o : Option Port) → ((q : Port) → o ≡ Some q → ⊥) → o ≡ None
      none_of None h = refl
      none_of (Some q) h = absurd (h q refl)

  -- p has a far port where g says so, and only there
  pub far_is : (g : Option Port) → ((q : Port) → names p ≡ Some q → names q ≡ Some p → may_connect l p q ≡ true → g ≡ Some q) → ((q : Port) → g ≡ Some q → far_in l names p ≡ Some q) → far_in l names p ≡ g
  far_is g to from = option_ext (far_in l names p) g (λ q e. let s = far_says l names p q e in to q s.0 s.1 s.2) from

module _ (l : Layout) (nm nm' : Port → Option Port) (a b : Port) where
  -- a and b, both blank, name one another now: exactly that connection is new
  connect_far : may_connect l a b ≡ true → far_in l nm a ≡ None → far_in l nm b ≡ None → nm' a ≡ Some b → nm' b ≡ Some a → ((p : Port) → p ≢ a → p ≢ b → nm' p ≡ nm p) → (p : Port) → far_in l nm' p ≡ cond (same_port p a) (Some b) (cond (same_port p b) (Some a) (far_in l nm p))
  connect_far m na nb ea eb rest p =
      ⊎_elim
      (λ q. subst (λ (x : Port). far_in l nm' x ≡ Some b) (sym q) (says_far l nm' a b ea eb m) ∙ sym (cond-true _ _ _ (same_true p a q)))
      (λ q. ⊎_elim
      (λ r. subst (λ (x : Port). far_in l nm' x ≡ Some a) (sym r) (says_far l nm' b a eb ea (may_back l a b m)) ∙ sym (cond-false _ _ _ (same_false p a q) ∙ cond-true _ _ _ (same_true p b r)))
      (λ r. other p q r ∙ sym (cond-false _ _ _ (same_false p a q) ∙ cond-false _ _ _ (same_false p b r)))
      (cases_port p b))
      (cases_port p a)
    where
      other : (p : Port) → p ≢ a → p ≢ b → far_in l nm' p ≡ far_in l nm p
      other p q r =
          far_is l nm' p (far_in l nm p)
          (λ f e back meet.
          let fa : f ≢ a = λ t. r (sym (inner (nm' a) b p ea (subst (λ (x : Port). nm' x ≡ Some p) t back))) in
          let fb : f ≢ b = λ t. q (sym (inner (nm' b) a p eb (subst (λ (x : Port). nm' x ≡ Some p) t back))) in
          says_far l nm p f (sym (rest p q r) ∙ e) (sym (rest f fa fb) ∙ back) meet)
          (λ f e.
          let s = far_says l nm p f e in
          let fa : f ≢ a = λ t. never_some (far_in l nm a) p na (subst (λ (x : Port). far_in l nm x ≡ Some p) t (far_back l nm p f e)) in
          let fb : f ≢ b = λ t. never_some (far_in l nm b) p nb (subst (λ (x : Port). far_in l nm x ≡ Some p) t (far_back l nm p f e)) in
          says_far l nm' p f (rest p q r ∙ s.0) (rest f fa fb ∙ s.1) s.2)

  -- a and b, each the other's far port, name none now: exactly that connection is gone
  disconnect_far : far_in l nm a ≡ Some b → nm' a ≡ None → nm' b ≡ None → ((p : Port) → p ≢ a → p ≢ b → nm' p ≡ nm p) → (p : Port) → far_in l nm' p ≡ cond (same_port p a) None (cond (leads_to (far_in l nm a) p) None (far_in l nm p))
  disconnect_far e ea eb rest p =
      ⊎_elim
      (λ q. blank_of a q ea ∙ sym (cond-true _ _ _ (same_true p a q)))
      (λ q. ⊎_elim
      (λ r. blank_of b r eb ∙ sym (cond-false _ _ _ (same_false p a q) ∙ cond-true _ _ _ (led (far_in l nm a) p (e ∙ ap Some (sym r)))))
      (λ r. other q r ∙ sym (cond-false _ _ _ (same_false p a q) ∙ cond-false _ _ _ (ap (λ o. leads_to o p) e ∙ same_false b p (λ t. r (sym t)))))
      (cases_port p b))
      (cases_port p a)
    where
      blank_of : (x : Port) → p ≡ x → nm' x ≡ None → far_in l nm' p ≡ None
      blank_of x q h = far_none l nm' p (λ f t m. never_some (nm' x) f h (subst (λ (y : Port). nm' y ≡ Some f) q t))

      other : p ≢ a → p ≢ b → far_in l nm' p ≡ far_in l nm p
      other q r =
          far_is l nm' p (far_in l nm p)
          (λ f t back meet.
          let fa : f ≢ a = λ z. never_some (nm' a) p ea (subst (λ (x : Port). nm' x ≡ Some p) z back) in
          let fb : f ≢ b = λ z. never_some (nm' b) p eb (subst (λ (x : Port). nm' x ≡ Some p) z back) in
          says_far l nm p f (sym (rest p q r) ∙ t) (sym (rest f fa fb) ∙ back) meet)
          (λ f t.
          let s = far_says l nm p f t in
          let back = far_back l nm p f t in
          let fa : f ≢ a = λ z. r (sym (inner (far_in l nm a) b p e (subst (λ (x : Port). far_in l nm x ≡ Some p) z back))) in
          let fb : f ≢ b = λ z. q (sym (inner (far_in l nm b) a p (far_back l nm a b e) (subst (λ (x : Port). far_in l nm x ≡ Some p) z back))) in
          says_far l nm' p f (rest p q r ∙ s.0) (rest f fa fb ∙ s.1) s.2)

-- a layout with other components and far ports
pub drawn_eq : (l l' : Layout) (f f' : Port → Option Port) → l ≡ l' → f ≡ f' → ◌≡◌ {A = Layout} (record { count = l.count; kind = l.kind; section = l.section; far = f }) (record { count = l'.count; kind = l'.kind; section = l'.section; far = f' })
drawn_eq l l' f f' p q = λ i. record { count = (p i).count; kind = (p i).kind; section = (p i).section; far = q i }

module _ (rs : List Component) (n : ℕ) (fit : n ≤ length rs) (a b : Port) where
  within : (p : Port) → is_port (components_of rs n) p ≡ true → p.component < length rs
  within p h = let t = port_below (components_of rs n) p h in omega arith

  distinct : opposed (components_of rs n) a b ≡ true → a ≢ b
  distinct h = λ e. (opposed_parts (components_of rs n) a b h).1 (ap (λ p. p.component) e)

  module _ (x y : Option Port) (la : a.component < length rs) (lb : b.component < length rs) where
    lb' : b.component < length (put_in rs a x)
    lb' = rw put_length lb

    both_components : components_of (put_in (put_in rs a x) b y) n ≡ components_of rs n
    both_components = put_components (put_in rs a x) b y n lb' ∙ put_components rs a x n la

    first_named : a ≢ b → named (put_in (put_in rs a x) b y) a ≡ x
    first_named ne = put_other (put_in rs a x) b y a lb' ne ∙ put_same rs a x la

    second_named : named (put_in (put_in rs a x) b y) b ≡ y
    second_named = put_same (put_in rs a x) b y lb'

    rest_named : (p : Port) → p ≢ a → p ≢ b → named (put_in (put_in rs a x) b y) p ≡ named rs p
    rest_named p q r = put_other (put_in rs a x) b y p lb' r ∙ put_other rs a x p la q

  pub connected_layout : is_port (components_of rs n) a ≡ true → is_port (components_of rs n) b ≡ true → opposed (components_of rs n) a b ≡ true → (layout_of rs n).far a ≡ None → (layout_of rs n).far b ≡ None → layout_of (put_in (put_in rs a (Some b)) b (Some a)) n ≡ connected (layout_of rs n) a b
  connected_layout pa pb op na nb =
      let l = components_of rs n in
      let la = within a pa in
      let lb = within b pb in
      let nm' = named (put_in (put_in rs a (Some b)) b (Some a)) in
      let ks = both_components (Some b) (Some a) la lb in
      drawn_eq _ _ _ _ ks
      (ap (λ k. far_in k nm') ks
      ∙ ext _ _ (connect_far l (named rs) nm' a b (may_from l a b pa pb op) na nb
      (first_named (Some b) (Some a) la lb (distinct op))
      (second_named (Some b) (Some a) la lb)
      (rest_named (Some b) (Some a) la lb)))

  pub disconnected_layout : (layout_of rs n).far a ≡ Some b → layout_of (put_in (put_in rs a None) b None) n ≡ disconnected (layout_of rs n) a
  disconnected_layout e =
      let l = components_of rs n in
      let m = may_parts l a b (far_says l (named rs) a b e).2 in
      let la = within a m.0 in
      let lb = within b m.1 in
      let nm' = named (put_in (put_in rs a None) b None) in
      let ks = both_components None None la lb in
      drawn_eq _ _ _ _ ks
      (ap (λ k. far_in k nm') ks
      ∙ ext _ _ (disconnect_far l (named rs) nm' a b e
      (first_named None None la lb (distinct m.2))
      (second_named None None la lb)
      (rest_named None None la lb)))
