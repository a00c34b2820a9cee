-- What users rely on of the report's counts: a sentence and a theorem, proved by citing. All that is claimed is in specs/ and here.
-- Assumes nothing.
use Rattle.std.specs.Prelude.{Ok}
use Prim.Native.Nat.{ℕ}
use mathlib.Core.Path.{◌≡◌}
use mathlib.Core.List.{List}
use lib.ListN.{length}
use Rattle.theory.specs.Lists.{bit, sum}
use Rattle.theory.specs.Signals.{held, residue_at}
use Rattle.files.specs.Layout.{file_samples, file_terms}
use Rattle.reports.specs.declared.Counts.{Counts}
use Rattle.reports.specs.Counts.{Count}
use Rattle.reports.specs.Starts.{starts_spike}
use Rattle.reports.proofs.Starts.{spikes_by_starts}
use Rattle.reports.proofs.Decided.{counted_is}

-- The number of spikes is the number of samples whose residue isn't 0 and is not of the sign of the residue before it; the first sample has
-- none before it.
pub spikes_counted : (f : List ℕ) {c : Counts} → Count f (Ok c)
    → c.spikes ≡ sum (length (file_samples f)) (λ x. bit (starts_spike (residue_at held (file_terms f) (file_samples f)) x))
spikes_counted f call = rw (counted_is f call) (spikes_by_starts (length (file_samples f)) (residue_at held (file_terms f) (file_samples f)))
