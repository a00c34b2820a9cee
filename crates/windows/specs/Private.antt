-- Only private contracts cite this: the columns, and which of them have a position of a set.
use Rattle.std.specs.Prelude.{◌≡◌, Bool, false, ℕ, List, ◌≤◌, ◌<◌}
use Rattle.std.specs.List.{range_with_len}
use Rattle.limits.specs.Limits.{width}
use Rattle.theory.specs.Sets.{has}
use Rattle.windows.specs.Columns.{position_in}

-- a position of the set stands in column k
unfoldable pub stands : ℕ → ℕ → Bool
stands set k = has set (position_in k)

-- the columns, from left to right
abbrev pub columns : List ℕ
columns = range_with_len 0 width

-- no position stands in column k or right of it
abbrev pub NoneFrom : ℕ → ℕ → Type 0
NoneFrom set k = (j : ℕ) → k ≤ j → j < width → stands set j ≡ false
