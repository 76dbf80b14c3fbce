-- How many switches belong to a point section.
use Rattle.std.specs.Prelude.{ℕ, zero, suc, ◌+◌, Bool, cond, ◌&&◌, ◌==◌}
use Rattle.plan.specs.Layout.{Layout, is_switch}

-- how many of 0 to n - 1 pass a test
unfoldable pub tally : ℕ → (ℕ → Bool) → ℕ
tally zero f = 0
tally (suc n) f = tally n f + cond (f n) 1 0

abbrev pub belongs : Layout → ℕ → ℕ → Bool
belongs l k c = is_switch (l.kind c) && l.section c == k

abbrev pub members : Layout → ℕ → ℕ
members l k = tally l.count (belongs l k)
