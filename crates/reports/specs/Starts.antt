-- The words of the law that counts spikes by their starts; no contract cites them.
use Rattle.std.specs.Prelude.{ℕ, zero, suc, Bool, not, ◌&&◌, ◌||◌, ltb, ℤ}
use Rattle.reports.specs.Counts.{is_change, above, below}

-- two residues are of one sign: both above 0, or both below 0
unfoldable pub of_one_sign : ℤ → ℤ → Bool
of_one_sign r q = (ltb 0 (above r) && ltb 0 (above q)) || (ltb 0 (below r) && ltb 0 (below q))

-- a spike starts at x: the residue isn't 0 and is not of the sign of the residue before it; the first sample has none before it
unfoldable pub starts_spike : (ℕ → ℤ) → ℕ → Bool
starts_spike residue zero = is_change (residue zero)
starts_spike residue (suc x) = is_change (residue (suc x)) && not (of_one_sign (residue (suc x)) (residue x))
