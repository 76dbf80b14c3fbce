-- The file without components is accepted, so whatever is taken is an accepted file.
use Rattle.std.proofs.Common.{◌≡◌, ℕ, Bool, true, false, cond, List, refl, ap, ◌∙◌}
use Rattle.file.specs.Checks.{each}
use Rattle.file.specs.Contents.{signal_count, switch_count, straight_count, section_count, components, layout_of}
use Rattle.file.specs.Readings.{section_checks, signal_section, switch_section, straight_section, point_sections, first_reading, second_reading, look}
use Rattle.file.specs.FileOf.{accepts}
use Rattle.filed.specs.Taken.{empty_file, taken, Takes}

empty_accepted : accepts empty_file ≡ true
unfolding each signal_count switch_count straight_count section_count section_checks signal_section switch_section straight_section point_sections first_reading second_reading look
empty_accepted = refl

empty_count : components empty_file ≡ 0
unfolding signal_count switch_count straight_count
empty_count = refl

pub taken_accepted : (s : List ℕ) → accepts (taken s) ≡ true
taken_accepted s =
    let by : (b : Bool) → accepts s ≡ b → accepts (cond b s empty_file) ≡ true =
    λ b. elim b as (λ t. accepts s ≡ t → accepts (cond t s empty_file) ≡ true) [ true ↦ λ e. e | false ↦ λ e. empty_accepted ] in
    by (accepts s) refl

pub taken_layout : (s t : List ℕ) → t ≡ taken s → Takes s (layout_of t)
taken_layout s t h = (
  λ e. ap layout_of (h ∙ ap (λ b. cond b s empty_file) e),
  λ e. ap components (h ∙ ap (λ b. cond b s empty_file) e) ∙ empty_count,
)
