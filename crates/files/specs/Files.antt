-- What reading and writing a scan file answer, and what they leave in the slices lent.
use Rattle.std.specs.Prelude.{Result, Ok}
use Rattle.refusals.specs.declared.Refusal.{Refusal}
use Rattle.refusals.specs.declared.Refusal.TheVariants.{OutputLength, FileLength, Mark, TermDistance, SampleDistance}
use Rattle.refusals.specs.Refusals.{Checked}
use Rattle.std.specs.Prelude.{ℕ, ◌≡◌, not, List, ltb, length}
use Rattle.limits.specs.Limits.{width}
use Rattle.refusals.specs.Refusals.{refuse_if, and_then, written}
use Rattle.refusals.specs.Shared.{room_checked, scan_checked, lent_checked}
use Rattle.refusals.specs.Promise.{Gives}
use Rattle.forms.specs.Check.{form_checked}
use Rattle.files.specs.declared.Family.{Family}
use Rattle.files.specs.declared.Sizes.{Sizes}
use Rattle.files.specs.Layout.{counts_family, samples_field, terms_field, mark_field, term_count, points_at_terms, file_terms}
use Rattle.files.specs.Layout.{file_length, sized, marked, points_at_samples, sample_count, file_samples, counts_file}

module _ (family : Family) where
  -- 15, of the file's length, then 16, 17 and 18, of its mark, its term distance and its sample distance, each at the field's first byte
  unfoldable pub layout_checked : List ℕ → Checked
  layout_checked f =
      and_then (refuse_if (not (sized family f)) (FileLength (length f)))
      (and_then (refuse_if (not (marked family f)) (Mark (mark_field f)))
      (and_then (refuse_if (not (points_at_terms f)) (TermDistance (terms_field f))) (refuse_if (not (points_at_samples family f)) (SampleDistance (samples_field f)))))

  -- 15 to 18, 7, 8, 9, in this order: what a file by itself is refused for
  unfoldable pub file_checked : List ℕ → Checked
  file_checked f = and_then (layout_checked f) (and_then (form_checked width (file_terms f)) (scan_checked family.most (sample_count family f)))

  -- 6, then 10: so many elements are lent for the samples and for the terms; for samples more than needed is fine
  unfoldable pub slices_checked : List ℕ → ℕ → ℕ → Checked
  slices_checked f samples terms =
      and_then (room_checked (term_count f) terms) (refuse_if (ltb samples (sample_count family f)) (OutputLength (sample_count family f)))

  -- reading: 15 to 18, 7, 8, 9, 6, 10
  unfoldable pub read_checked : List ℕ → ℕ → ℕ → Checked
  read_checked f samples terms = and_then (file_checked f) (slices_checked f samples terms)

  -- writing a form and so many samples: 7, 8, 9, 10, with so many bytes lent
  unfoldable pub write_checked : List ℕ → ℕ → ℕ → Checked
  write_checked form samples lent =
      and_then (form_checked width form)
      (and_then (scan_checked family.most samples) (lent_checked (file_length family samples (length form)) lent))

-- so many samples and terms
abbrev pub sizes : ℕ → ℕ → Sizes
sizes m n = record { samples = m; terms = n }

-- a read of the file f: its answer, and what the slices for samples and for terms held before and hold after
pub record Read (f samples samples' terms terms' : List ℕ) (a : Result Sizes Refusal) : Type 0 where
  pub answer : a ≡ and_then (read_checked counts_family f (length samples) (length terms)) (Ok (sizes (length (file_samples f)) (length (file_terms f))))
  pub samples_out : samples' ≡ written (read_checked counts_family f (length samples) (length terms)) (file_samples f) samples
  pub terms_out : terms' ≡ written (read_checked counts_family f (length samples) (length terms)) (file_terms f) terms

-- a write of a form and a scan: the file of them
abbrev pub Write : List ℕ → List ℕ → List ℕ → List ℕ → Result ℕ Refusal → Type 0
Write form scan = Gives (write_checked counts_family form (length scan)) (length (counts_file form scan)) (counts_file form scan)
