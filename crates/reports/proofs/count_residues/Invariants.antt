-- `reports::count_residues` meets its contract. Assumes nothing.
use Rattle.std.proofs.Common.{ℕ, ◌*◌, ◌≤◌, ◌≡◌, List, length, get_or, ℤ, pos, ◌-ℤ◌}
use Rattle.std.specs.Int.{int_signum}
use Rattle.limits.specs.Limits.{top}
use Rattle.theory.specs.Lists.{bit, sum}
use Rattle.reports.specs.Counts.{is_change, kind_of, above, below}
use Rattle.reports.specs.declared.Counts.{Counts}
use Rattle.reports.proofs.Spikes.{kind_before, starts_at}
use Rattle.reports.proofs.count_residues.Given as goal

-- the residue at x, and its kind
abbrev pub residue : List ℕ → List ℕ → ℕ → ℤ
residue scan cleaned x = pos (get_or scan x 0) -ℤ pos (get_or cleaned x 0)

abbrev pub kinds : List ℕ → List ℕ → ℕ → ℕ
kinds scan cleaned x = kind_of (residue scan cleaned x)

-- what has been summed of the first n samples, and how large that is
pub record Sums (scan cleaned : List ℕ) (c : Counts) (n : ℕ) : Type 0 where
  pub changed_is : c.changed ≡ sum n (λ x. bit (is_change (residue scan cleaned x)))
  pub spikes_is : c.spikes ≡ sum n (λ x. bit (starts_at (kinds scan cleaned) x))
  pub up_is : c.up ≡ sum n (λ x. above (residue scan cleaned x))
  pub down_is : c.down ≡ sum n (λ x. below (residue scan cleaned x))
  pub few : (c.changed ≤ n) × (c.spikes ≤ n)
  pub low : (c.up ≤ top * n) × (c.down ≤ top * n)

abbrev pub invariant-loop-x : goal.invariant-loop-x
invariant-loop-x l =
    Sums l.scan l.cleaned l.counts l.x × (l.counts.samples ≡ length l.scan) × (int_signum l.before ≡ l.before) × (kind_of l.before ≡ kind_before (kinds l.scan l.cleaned) l.x)
