-- The refusals that several calls share.
use Rattle.std.specs.Prelude.{ℕ, not, ◌||◌, eqb, ltb}
use Rattle.refusals.specs.declared.Refusal.TheVariants.{TermsLent, ScanLength, OutputLength}
use Rattle.refusals.specs.Refusals.{Checked, refuse_if}

-- 6: fewer elements lent for terms than needed
unfoldable pub room_checked : ℕ → ℕ → Checked
room_checked needed lent = refuse_if (ltb lent needed) (TermsLent needed)

-- 9: a scan of 0 or over the most samples
unfoldable pub scan_checked : ℕ → ℕ → Checked
scan_checked most samples = refuse_if (eqb samples 0 || ltb most samples) (ScanLength samples)

-- 10: an output slice of another length than needed
unfoldable pub lent_checked : ℕ → ℕ → Checked
lent_checked needed lent = refuse_if (not (eqb lent needed)) (OutputLength needed)
