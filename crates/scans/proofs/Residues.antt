-- What a residue means: within -65,535 to 65,535, 0 exactly where raw equals cleaned, and at each end of the range exactly one pair of
-- values. By either ends rule.
-- Assumes nothing.
use mathlib.Core.Path.{◌≡◌}
use mathlib.Core.Bool.{true}
use mathlib.Core.List.{List}
use mathlib.Core.Logic.{◌↔◌}
use Prim.Native.Nat.{ℕ, ◌-◌}
use lib.ListN.{get_or}
use lib.IntN.{pos, neg_ℤ}
use lib.Signed.{le_z}
use Rattle.limits.specs.Limits.{top}
use Rattle.theory.specs.Signals.{Ends, filtered_at, residue_at}
use Rattle.theory.proofs.Differences.{minus_zero, minus_highest, minus_within, minus_lowest}
use Rattle.theory.proofs.Demands.{Samples, filtered_le}

module _ (ends : Ends) (ts s : List ℕ) (small : Samples s) (x : ℕ) where
  -- -65,535 to 65,535
  pub residue_within : (le_z (neg_ℤ (pos top)) (residue_at ends ts s x) ≡ true) × (le_z (residue_at ends ts s x) (pos top) ≡ true)
  unfolding residue_at
  residue_within = minus_within top (get_or s x 0) (filtered_at ends ts s x) (small x) (filtered_le ends ts s x)

  -- 0 exactly where raw equals cleaned
  pub residue-zero : (residue_at ends ts s x ≡ pos 0) ↔ (get_or s x 0 ≡ filtered_at ends ts s x)
  unfolding residue_at
  residue-zero = minus_zero (get_or s x 0) (filtered_at ends ts s x)

  -- 65,535 exactly where raw is 65,535 and cleaned is 0
  pub residue_highest : (residue_at ends ts s x ≡ pos top) ↔ ((get_or s x 0 ≡ top) × (filtered_at ends ts s x ≡ 0))
  unfolding residue_at
  residue_highest = minus_highest top (get_or s x 0) (filtered_at ends ts s x) (small x) (filtered_le ends ts s x)

  -- -65,535 exactly where raw is 0 and cleaned is 65,535
  pub residue_lowest : (residue_at ends ts s x ≡ neg_ℤ (pos top)) ↔ ((get_or s x 0 ≡ 0) × (filtered_at ends ts s x ≡ top))
  unfolding residue_at
  residue_lowest = minus_lowest (top - 1) (get_or s x 0) (filtered_at ends ts s x) (small x) (filtered_le ends ts s x)
