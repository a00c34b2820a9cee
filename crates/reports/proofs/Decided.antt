-- The contract of counting allows one answer; where it is counts, they are those of the file's form and scan.
-- Assumes nothing.
use Rattle.std.specs.Prelude.{Result, Ok}
use Rattle.refusals.specs.declared.Refusal.{Refusal}
use Rattle.refusals.proofs.Checks.{done_fine}
use mathlib.Core.Path.{◌≡◌, sym, ◌∙◌}
use mathlib.Core.List.{List}
use Prim.Native.Nat.{ℕ}
use Rattle.files.specs.Layout.{counts_family}
use Rattle.files.specs.Files.{file_checked}
use Rattle.reports.specs.declared.Counts.{Counts}
use Rattle.reports.specs.Counts.{counts_in, Count}

pub count_decided : (f : List ℕ) {a b : Result Counts Refusal} → Count f a → Count f b → a ≡ b
count_decided f p q = p ∙ sym q

pub counted_is : (f : List ℕ) {c : Counts} → Count f (Ok c) → c ≡ counts_in f
counted_is f {c} p = (done_fine (file_checked counts_family f) (counts_in f) c p).1
