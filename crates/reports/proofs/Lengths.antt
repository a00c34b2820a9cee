-- What counting answers of a file whose length no scan file has: of such a file no byte need be read.
-- Assumes nothing.
use Rattle.refusals.specs.declared.Refusal.TheVariants.{FileLength}
use Prim.Native.Nat.{ℕ, ◌<◌}
use mathlib.Core.Path.{◌≡◌}
use mathlib.Core.List.{List}
use lib.ListN.{length}
use Rattle.limits.specs.Limits.{longest_file}
use Rattle.files.specs.Layout.{counts_family}
use Rattle.files.specs.Causes.{by_length}
use Rattle.files.proofs.Layouts.{too_long}
use Rattle.files.proofs.Causes.{cause_refused}
use Rattle.std.specs.Prelude.{Err}
use Rattle.reports.specs.Counts.{file_counted}

pub length-counted : (f : List ℕ) {n : ℕ} → length f ≡ n → longest_file < n → file_counted f ≡ Err (FileLength n)
length-counted f e long = rw (cause_refused counts_family f (by_length (too_long f (rw e long))), e)
