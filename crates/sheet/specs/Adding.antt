-- What adding a component makes of a layout.
use Rattle.std.specs.Prelude.{ℕ, ◌+◌, cond, None, ◌==◌}
use Rattle.plan.specs.declared.parts.Kind.{Kind}
use Rattle.plan.specs.declared.parts.Kind.TheVariants.{Straight}
use Rattle.plan.specs.Layout.{Layout}

abbrev pub empty_layout : Layout
empty_layout = record { count = 0; kind = λ c. Straight; section = λ c. 0; far = λ p. None }

-- one component more, with the next number and blank ports
abbrev pub with_component : Layout → Kind → ℕ → Layout
with_component l k s = record {
  count = l.count + 1;
  kind = λ c. cond (c == l.count) k (l.kind c);
  section = λ c. cond (c == l.count) s (l.section c);
  far = l.far;
}
