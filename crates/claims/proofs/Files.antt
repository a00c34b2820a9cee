-- What users rely on of the four refusals of a file's layout, 15 to 18: a sentence and a theorem each, proved by citing. All that is claimed is
-- in specs/ and here.
-- Assumes nothing.
use Rattle.std.specs.Prelude.{Result, Err}
use Rattle.files.specs.declared.Sizes.{Sizes}
use Rattle.reports.specs.declared.Counts.{Counts}
use Prim.Native.Nat.{ℕ}
use mathlib.Core.Path.{◌≡◌}
use mathlib.Core.List.{List}
use mathlib.Core.Logic.{◌↔◌}
use Rattle.refusals.specs.declared.Refusal.{Refusal}
use Rattle.files.specs.Layout.{counts_family}
use Rattle.files.specs.Files.{Read}
use Rattle.files.specs.Causes.{Laid, Cause, OfLayout}
use Rattle.reports.specs.Counts.{Count}
use Rattle.claims.proofs.Layouts.{none_given, read_gives, count_gives}

-- A file is laid out well exactly when counting from it gives none of the four.
pub laid_out_well : (f : List ℕ) {a : Result Counts Refusal} → Count f a → Laid counts_family f ↔ ((r : Refusal) → OfLayout r → a ≡ Err r → ⊥)
laid_out_well = none_given

module _ (f : List ℕ) (r : Refusal) (four : OfLayout r) where
  -- Reading gives each of the four, at its place, exactly when its own condition holds and none before it.
  pub each_by_reading : {s s' t t' : List ℕ} {a : Result Sizes Refusal} → Read f s s' t t' a → (a ≡ Err r) ↔ Cause counts_family f r
  each_by_reading = read_gives f r four

  -- So does counting, and with it both programs.
  pub each_by_counting : {a : Result Counts Refusal} → Count f a → (a ≡ Err r) ↔ Cause counts_family f r
  each_by_counting = count_gives f r four
