-- The one_switch station: three signals of direction E and a switch.  From signal 0 the switch, component 3, leads
-- straight to signal 1 and by its branch to signal 2.
use Rattle.std.specs.Prelude.{ℕ, List, [], ◌∷◌}
use Rattle.plan.specs.Layout.{Layout}
use Rattle.file.specs.Contents.{layout_of}

-- its file: three signals, one switch, no straight section and one point section, each sort after its count
unfoldable pub one_switch : List ℕ
one_switch =
    3 ∷ 0
    ∷ 255 ∷ 255 ∷ 12 ∷ 0 ∷ 69
    ∷ 13 ∷ 0 ∷ 255 ∷ 255 ∷ 69
    ∷ 14 ∷ 0 ∷ 255 ∷ 255 ∷ 69
    ∷ 1 ∷ 0
    ∷ 1 ∷ 0 ∷ 4 ∷ 0 ∷ 8 ∷ 0 ∷ 69 ∷ 0 ∷ 0
    ∷ 0 ∷ 0
    ∷ 1 ∷ 0
    ∷ 1 ∷ 0 ∷ []

unfoldable pub station : Layout
station = layout_of one_switch

-- its two routes as entries, in their order: 0 3N 1 and 0 3R 2
unfoldable pub routes : List (List ℕ)
routes = (0 ∷ 13 ∷ 4 ∷ []) ∷ (0 ∷ 14 ∷ 8 ∷ []) ∷ []
