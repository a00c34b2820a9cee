-- Only private contracts cite this: the smallest over some of a term's positions.
use Rattle.std.specs.Prelude.{List, ℕ, get_or}
use Rattle.limits.specs.Limits.{top}
use Rattle.theory.specs.Lists.{keep, from}
use Rattle.theory.specs.Sets.{has}
use Rattle.theory.specs.Orders.{counts, smallest}

-- the smallest that the term reaches at the k positions from i on; the top where it reaches none of them
unfoldable pub smallest_in : ℕ → List ℕ → ℕ → ℕ → ℕ
smallest_in term near i k = smallest counts top (λ j. get_or near j 0) (keep (has term) (from i k))
