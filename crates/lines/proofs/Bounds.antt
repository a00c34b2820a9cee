-- How large the numbers on a line can be: of a file of bytes whose length fits in 64 bits, every one of them does.
-- Assumes nothing.
use Rattle.std.specs.Prelude.{Ok, Err}
use Prim.Native.Nat.{ℕ, ◌+◌, ◌-◌, ◌*◌, ◌^◌, ◌≤◌, ◌<◌}
use native.Mathlib.Nat.{div-le_self}
use native.Mathlib.Omega.{arith}
use mathlib.Core.List.{List}
use lib.ListN.{length}
use Rattle.limits.specs.Limits.{width, top, most_samples, word_bytes}
use Rattle.theory.specs.Forms.{is_bad}
use Rattle.refusals.specs.declared.Refusal.{Refusal}
use Rattle.refusals.specs.Numbers.{notice_of, noticed}
use Rattle.files.specs.Bytes.{long_at}
use Rattle.files.specs.Layout.{counts_family, samples_field, count_field, samples_back, terms_back, term_count, file_terms, sample_count}
use Rattle.files.specs.Files.{file_checked}
use Rattle.files.specs.Causes.{Bytes}
use Rattle.files.proofs.Layouts.{terms_counted}
use Rattle.files.proofs.Refused.{IfRefused, file_refused}
use Rattle.reports.specs.declared.Counts.{Counts}
use Rattle.reports.specs.Counts.{file_counted}
use Rattle.reports.proofs.Sums.{first_le}
use Rattle.reports.proofs.Bounds.{Most, word_most}
use Rattle.totals.specs.declared.Outcome.TheVariants.{Opened}
use Rattle.totals.proofs.Files.{by_count}
use Rattle.lines.proofs.Fields.{Each, Fits, numbers_of}

counts_fit : (c : Counts) → Most (top * most_samples) c → Each Fits (numbers_of (Opened (Ok c)))
counts_fit c m =
    (omega (arith, m.samples), (omega (arith, m.changed), (omega (arith, m.spikes), (omega (arith, m.up), (omega (arith, m.down), tt)))))

abbrev RefusalFits : Refusal → Type 0
RefusalFits r = Each Fits (numbers_of (Opened (Err (notice_of r))))

module _ (f : List ℕ) (bytes : Bytes f) (fits : Fits (length f)) where
  samples_most : sample_count counts_family f < 2 ^ 32
  unfolding sample_count samples_back long_at
  samples_most =
      let at = samples_field f in
      omega (arith, div-le_self (samples_back f - terms_back f) word_bytes, word_most f bytes at, word_most f bytes (at + word_bytes))

  terms_most : length (file_terms f) ≤ top
  unfolding term_count
  terms_most = omega (arith, terms_counted f, word_most f bytes (count_field f))

  refusal_fits : IfRefused RefusalFits (file_checked counts_family f)
  refusal_fits =
      let ts = file_terms f in
      file_refused RefusalFits counts_family f (omega arith, (omega (arith, fits), tt))
      (omega arith, (omega (arith, fits), tt))
      (omega arith, (omega (arith, fits), tt))
      (omega arith, (omega (arith, fits), tt))
      (omega arith, (omega (arith, terms_most, first_le (is_bad width ts) (length ts)), tt))
      (omega arith, (omega (arith, terms_most), tt))
      (omega arith, (omega (arith, samples_most), tt))

  -- whatever counting it answers
  pub numbers_fit : Each Fits (numbers_of (Opened (noticed (file_counted f))))
  numbers_fit = by_count (λ a. Each Fits (numbers_of (Opened a))) f bytes counts_fit refusal_fits
