-- How large the counts of a file of bytes can be: each is at most 65,535 for every sample.
-- Assumes nothing.
use Rattle.std.specs.Prelude.{Ok}
use Prim.Native.Nat.{ℕ, zero, suc, ◌+◌, ◌-◌, ◌*◌, ◌≤◌, zero-le}
use native.Mathlib.Nat.{mul-suc}
use native.Mathlib.Omega.{arith}
use mathlib.Core.Path.{◌≡◌}
use mathlib.Core.List.{List}
use lib.IntN.{ℤ}
use lib.ListN.{length, get_or}
use Rattle.limits.specs.Limits.{top, most_samples, word_bytes}
use Rattle.theory.specs.Lists.{bit, sum}
use Rattle.theory.specs.Forms.{levels}
use Rattle.theory.specs.Signals.{held, filtered_at, residue_at}
use Rattle.theory.proofs.Lists.{bit_lt, tally-le, get_or_tab_default}
use Rattle.files.specs.Bytes.{word_at, words_from}
use Rattle.files.specs.Layout.{counts_family, samples_back, sample_count, file_samples, file_terms}
use Rattle.files.specs.Files.{file_checked}
use Rattle.files.specs.Causes.{Bytes}
use Rattle.files.proofs.Layouts.{samples_counted}
use Rattle.files.proofs.Accepts.{fine_file}
use Rattle.reports.specs.declared.Counts.{Counts}
use Rattle.reports.specs.Counts.{is_change, kind_of, above, below, counts_of, counts_in}
use Rattle.reports.proofs.Spikes.{starts_at, runs_by_starts}
use Rattle.reports.proofs.Residues.{above_difference, below_difference}

-- each of five counts is at most m
pub record Most (m : ℕ) (c : Counts) : Type 0 where
  pub samples : c.samples ≤ m
  pub changed : c.changed ≤ m
  pub spikes : c.spikes ≤ m
  pub up : c.up ≤ m
  pub down : c.down ≤ m

sum_most : (m n : ℕ) (g : ℕ → ℕ) → ((x : ℕ) → g x ≤ m) → sum n g ≤ m * n
unfolding sum
sum_most m zero g h = zero-le
sum_most m (suc n) g h = omega (arith, sum_most m n g h, h n, mul-suc m n)

module _ (f : List ℕ) (bytes : Bytes f) where
  -- ---- what a file of bytes holds

  pub word_most : (at : ℕ) → word_at f at ≤ top
  unfolding word_at
  word_most at = omega (arith, bytes at, bytes (at + 1))

  sample_most : (x : ℕ) → get_or (file_samples f) x 0 ≤ top
  unfolding file_samples words_from
  sample_most x =
      get_or_tab_default (λ v. v ≤ top) 0 (sample_count counts_family f) (λ i. word_at f (length f - samples_back f + word_bytes * i)) zero-le
      (λ i. word_most (length f - samples_back f + word_bytes * i)) x

  -- ---- what is counted of it

  module _ (ts : List ℕ) where
    abbrev residue : ℕ → ℤ
    residue = residue_at held ts (file_samples f)

    above_most : (x : ℕ) → above (residue x) ≤ top
    unfolding residue_at
    above_most x = omega (arith, above_difference (get_or (file_samples f) x 0) (filtered_at held ts (file_samples f) x), sample_most x)

    filtered_most : (x : ℕ) → filtered_at held ts (file_samples f) x ≤ top
    unfolding filtered_at levels
    filtered_most x = tally-le top _

    below_most : (x : ℕ) → below (residue x) ≤ top
    unfolding residue_at
    below_most x = omega (arith, below_difference (get_or (file_samples f) x 0) (filtered_at held ts (file_samples f) x), filtered_most x)

    -- by any form each count is at most 65,535 for every sample
    pub counts_most : Most (top * length (file_samples f)) (counts_of (length (file_samples f)) residue)
    unfolding counts_of
    counts_most =
        let n = length (file_samples f) in
        let kind : ℕ → ℕ = λ x. kind_of (residue x) in
        let changes = sum_most 1 n (λ x. bit (is_change (residue x))) (λ x. omega (arith, bit_lt (is_change (residue x)))) in
        let starts = sum_most 1 n (λ x. bit (starts_at kind x)) (λ x. omega (arith, bit_lt (starts_at kind x))) in
        record {
          samples = omega arith;
          changed = omega (arith, changes);
          spikes = omega (arith, starts, runs_by_starts kind n);
          up = sum_most top n (λ x. above (residue x)) above_most;
          down = sum_most top n (λ x. below (residue x)) below_most;
        }

  -- of a file that can be read each count is at most 65,535 times 16,384
  pub accepted_most : file_checked counts_family f ≡ Ok tt → Most (top * most_samples) (counts_in f)
  accepted_most e =
      let short = (fine_file counts_family f e).short in
      let n = samples_counted f in
      let m = counts_most (file_terms f) in
      record {
        samples = omega (arith, m.samples);
        changed = omega (arith, m.changed);
        spikes = omega (arith, m.spikes);
        up = omega (arith, m.up);
        down = omega (arith, m.down);
      }
