-- Positions by their columns.
use Rattle.std.specs.Prelude.{ℕ, eqb}
use Rattle.limits.specs.Limits.{width}
use Rattle.theory.specs.Lists.{first}
use Rattle.theory.specs.Signals.{window}

-- the position that stands in column k; the width where none does
unfoldable pub position_in : ℕ → ℕ
position_in k = first (λ i. eqb (window.column i) k) width
