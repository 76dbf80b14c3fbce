-- What is taken of a file.
use Rattle.std.specs.Prelude.{◌≡◌, ℕ, true, false, cond, List, replicate}
use Rattle.plan.specs.Layout.{Layout}
use Rattle.file.specs.Contents.{layout_of}
use Rattle.file.specs.FileOf.{accepts}

-- four counts of 0
abbrev pub empty_file : List ℕ
empty_file = replicate 8 0

abbrev pub taken : List ℕ → List ℕ
taken s = cond (accepts s) s empty_file

-- An accepted file gives the layout that its bytes say, a refused one a layout without components.
abbrev pub Takes : List ℕ → Layout → Type 0
Takes s l = (accepts s ≡ true → l ≡ layout_of s) × (accepts s ≡ false → l.count ≡ 0)
