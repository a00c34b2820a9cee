-- The totals of a night: for as many files as a list can name nothing wraps, and every file is counted once.
-- Assumes nothing.
use Rattle.std.proofs.Common.{◌≡◌, ℕ, ◌*◌, ◌≤◌, List, [], ◌∷◌, length, refl, zero-le, mul-suc, arith}
use mathlib.Core.List.{Memᴰ}
use Rattle.limits.specs.Limits.{top, most_samples, most_names}
use Rattle.totals.specs.declared.Outcome.{Outcome}
use Rattle.totals.specs.Totals.{adds, each_field, total, totals_of}
use Rattle.totals.specs.Nights.{OfFiles, running, files_in}
use Rattle.totals.proofs.Fields.{Field, at}
use Rattle.totals.proofs.Running.{totals_at, running_exact}
use Rattle.totals.proofs.Files.{file_lands, adds_one, adds_most}

total_most : (m : ℕ) (number : Outcome → ℕ) (outcomes : List Outcome) → ((o : Outcome) → Memᴰ o outcomes → number o ≤ m)
    → total number outcomes ≤ m * length outcomes
unfolding total
total_most m number [] h = zero-le
total_most m number (o ∷ outcomes) h =
    omega (arith, h o (Memᴰ.head refl), total_most m number outcomes (λ p l. h p (Memᴰ.tail l)), mul-suc m (length outcomes))

-- Every file is counted in exactly one of the nine numbers of files: they add up to the number of outcomes.
pub every_file_counted : (outcomes : List Outcome) → OfFiles outcomes → files_in (totals_of outcomes) ≡ length outcomes
unfolding files_in totals_of each_field total
every_file_counted [] h = refl
every_file_counted (o ∷ outcomes) h =
    let one = adds_one o (file_lands (h o (Memᴰ.head refl))) in
    let others = every_file_counted outcomes (λ p l. h p (Memᴰ.tail l)) in
    omega (arith, one, others)

module _ (outcomes : List Outcome) (h : OfFiles outcomes) (few : length outcomes ≤ most_names) where
  -- Of at most 250 files every total is at most 268,431,360,000.
  pub totals_most : (field : Field) → at field (totals_of outcomes) ≤ most_names * (most_samples * top)
  totals_most field =
      let most = total_most (top * most_samples) (λ o. at field (adds o)) outcomes (λ o l. adds_most o (file_lands (h o l)) field) in
      omega (arith, totals_at outcomes field, most)

  -- So nothing wraps: the running totals are the totals.
  pub night_exact : running outcomes ≡ totals_of outcomes
  night_exact = running_exact outcomes (λ field. omega (arith, totals_most field))
