-- Rows: a signal on a piece of a scan, by its values from the reach before the piece to the reach behind it; further away it is one
-- value to the left, l, and one to the right, r. Index j of a row stands for the position j - reach. The passes over whole rows.
use Rattle.std.specs.Prelude.{Bool, cond, List, ℕ, ◌+◌, eqb, length, get_or}
use Rattle.std.proofs.Math.IntN.{sub_ℕ}
use Rattle.theory.specs.Lists.{tab}
use Rattle.theory.specs.Orders.{counts, larger, smaller}
use Rattle.theory.specs.Signals.{between}

-- s with k values more on either side
unfoldable pub widened : ℕ → ℕ → ℕ → List ℕ → List ℕ
widened k l r s = tab (length s + (k + k)) (λ i. between l r s (sub_ℕ i k))

-- room is for that
unfoldable pub is_wider : ℕ → List ℕ → List ℕ → Bool
is_wider k s room = eqb (length room) (length s + (k + k))

-- the larger or the smaller of two
unfoldable pub chosen : Bool → ℕ → ℕ → ℕ
chosen high a b = cond high (larger counts a b) (smaller counts a b)

-- the larger, or the smaller, of two rows at each index
unfoldable pub paired : Bool → List ℕ → List ℕ → List ℕ
paired high x y = tab (length y) (λ j. cond high (larger counts (get_or x j 0) (get_or y j 0)) (smaller counts (get_or x j 0) (get_or y j 0)))
