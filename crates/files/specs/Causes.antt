-- The words of the scan file's laws, which no contract cites: a file of bytes, one that is laid out well, and why one is not.
use Rattle.refusals.specs.declared.Refusal.TheVariants.{FileLength, Mark, TermDistance, SampleDistance}
use Rattle.std.specs.Prelude.{ℕ, ◌-◌, ◌%◌, ◌≤◌, ◌<◌, ◌≡◌, true, false, List, length, get_or}
use Rattle.limits.specs.Limits.{trailer_bytes, most_terms}
use Rattle.refusals.specs.declared.Refusal.{Refusal}
use Rattle.refusals.specs.Numbers.{notice_of}
use Rattle.files.specs.declared.Family.{Family}
use Rattle.files.specs.Bytes.{word_at}
use Rattle.files.specs.Layout.{samples_field, terms_field, mark_field, samples_back, terms_back, term_count, terms_distance, points_at_terms}
use Rattle.files.specs.Layout.{file_length, sized, marked, points_at_samples}

-- every element is a byte
abbrev pub Bytes : List ℕ → Type 0
Bytes f = (i : ℕ) → get_or f i 0 < 256

-- laid out well: document 01's conditions, as facts
pub record Laid (family : Family) (f : List ℕ) : Type 0 where
  pub long_enough : trailer_bytes ≤ length f
  pub short_enough : length f ≤ file_length family family.most most_terms
  pub mark : word_at f (mark_field f) ≡ family.mark
  pub to_terms : terms_back f ≡ terms_distance (term_count f)
  pub to_samples : samples_back f ≡ length f
  pub in_order : terms_back f ≤ samples_back f
  pub whole_samples : (samples_back f - terms_back f) % family.bytes ≡ 0

-- why a file is badly laid out: a number's own condition holds, and none before it; with its place
pub data Cause (family : Family) (f : List ℕ) : Refusal → Type 0 where
  by_length : sized family f ≡ false → Cause family f (FileLength (length f))
  by_mark : sized family f ≡ true → marked family f ≡ false → Cause family f (Mark (mark_field f))
  by_terms : sized family f ≡ true → marked family f ≡ true → points_at_terms f ≡ false → Cause family f (TermDistance (terms_field f))
  by_samples : sized family f ≡ true → marked family f ≡ true → points_at_terms f ≡ true → points_at_samples family f ≡ false
      → Cause family f (SampleDistance (samples_field f))

-- a refusal under one of the four numbers
abbrev pub OfLayout : Refusal → Type 0
OfLayout r = (15 ≤ (notice_of r).number) × ((notice_of r).number ≤ 18)
