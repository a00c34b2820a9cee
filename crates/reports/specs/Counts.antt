-- The report's counts of a form and a scan, each the count or the sum of document 01's definition over the residues; a spike as request 2 of
-- document 02 has it.
use Rattle.std.specs.Prelude.{Result, Ok}
use Rattle.refusals.specs.declared.Refusal.{Refusal}
use Rattle.refusals.specs.Refusals.{and_then}
use Rattle.std.specs.Prelude.{ℕ, ◌≡◌, Bool, cond, List, [], ◌∷◌, ltb, length, ℤ, nat_abs}
use Rattle.std.specs.Int.Signed.{non_neg}
use Rattle.theory.specs.Lists.{bit, sum}
use Rattle.theory.specs.Signals.{held, residue_at}
use Rattle.files.specs.Layout.{counts_family, file_samples, file_terms}
use Rattle.files.specs.Files.{file_checked}
use Rattle.reports.specs.declared.Counts.{Counts}
use Rattle.reports.specs.Runs.{longest_runs}

-- the residue isn't 0
unfoldable pub is_change : ℤ → Bool
is_change r = ltb 0 (nat_abs r)

-- the kind that a spike's samples have in common, the residue's sign: 1 above 0, 2 below 0; a residue of 0 is of none
unfoldable pub kind_of : ℤ → ℕ
kind_of r = cond (is_change r) (cond (non_neg r) 1 2) 0

-- a positive residue; 0 for another
abbrev pub above : ℤ → ℕ
above r = cond (non_neg r) (nat_abs r) 0

-- a negative residue with the sign dropped; 0 for another
abbrev pub below : ℤ → ℕ
below r = cond (non_neg r) 0 (nat_abs r)

-- the counts of n residues: the samples, those that changed, the spikes (longest runs of neighbouring samples whose residues are of one sign),
-- the total of the positive residues, and that of the negative ones with the sign dropped
unfoldable pub counts_of : ℕ → (ℕ → ℤ) → Counts
counts_of n residue = record {
  samples = n;
  changed = sum n (λ x. bit (is_change (residue x)));
  spikes = longest_runs n (λ x. kind_of (residue x));
  up = sum n (λ x. above (residue x));
  down = sum n (λ x. below (residue x));
}

-- the five numbers in the printed order
abbrev pub five : Counts → List ℕ
five c = c.samples ∷ c.changed ∷ c.spikes ∷ c.up ∷ c.down ∷ []

-- the counts of the form and the scan that the file f holds, the ends held
abbrev pub counts_in : List ℕ → Counts
counts_in f = counts_of (length (file_samples f)) (residue_at held (file_terms f) (file_samples f))

-- what counting from the file f answers: its counts, or why it is refused: 15 to 18, 7, 8, 9
abbrev pub file_counted : List ℕ → Result Counts Refusal
file_counted f = and_then (file_checked counts_family f) (Ok (counts_in f))

-- counting from the file f
abbrev pub Count : List ℕ → Result Counts Refusal → Type 0
Count f a = a ≡ file_counted f
