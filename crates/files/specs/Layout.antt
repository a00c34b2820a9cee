-- The scan file, over its family: samples, terms, and a trailer that points back from the file's end.
use Rattle.std.specs.Prelude.{ℕ, ◌+◌, ◌-◌, ◌*◌, ◌/◌, ◌%◌, Bool, ◌&&◌, List, ◌++◌, leb, eqb, length}
use Rattle.limits.specs.Limits.{word_bytes, trailer_bytes, most_samples, most_terms}
use Rattle.files.specs.declared.Family.{Family}
use Rattle.files.specs.Bytes.{two_bytes, four_bytes, in_words, word_at, long_at, words_from}

-- scans of counts: two bytes a sample, and the mark 53 46 hex, low byte first
abbrev pub counts_family : Family
counts_family = record { bytes = word_bytes; mark = 0x4653; most = most_samples }

-- ---- where the trailer's fields begin, from the file's start: two distances of four bytes each, the number of terms, and the mark

abbrev pub samples_field : List ℕ → ℕ
samples_field f = length f - trailer_bytes

abbrev pub terms_field : List ℕ → ℕ
terms_field f = length f - (trailer_bytes - 2 * word_bytes)

abbrev pub count_field : List ℕ → ℕ
count_field f = length f - (2 * word_bytes)

abbrev pub mark_field : List ℕ → ℕ
mark_field f = length f - word_bytes

-- ---- what they say

-- the distance from the file's end to the first sample
unfoldable pub samples_back : List ℕ → ℕ
samples_back f = long_at f (samples_field f)

-- the distance from the file's end to the first term
unfoldable pub terms_back : List ℕ → ℕ
terms_back f = long_at f (terms_field f)

-- the number of terms
unfoldable pub term_count : List ℕ → ℕ
term_count f = word_at f (count_field f)

-- the distance that so many terms and the trailer need
unfoldable pub terms_distance : ℕ → ℕ
terms_distance terms = trailer_bytes + word_bytes * terms

-- the term distance is that of the number of terms
unfoldable pub points_at_terms : List ℕ → Bool
points_at_terms f = eqb (terms_back f) (terms_distance (term_count f))

-- the words from the first term on, as many as the trailer says
unfoldable pub file_terms : List ℕ → List ℕ
file_terms f = words_from f (length f - terms_back f) (term_count f)

module _ (family : Family) where
  -- the length of a file of so many samples and terms
  unfoldable pub file_length : ℕ → ℕ → ℕ
  file_length samples terms = family.bytes * samples + terms_distance terms

  -- ---- laid out well: these conditions, tested in this order

  -- the length is that of a trailer up to that of the most samples and the most terms
  unfoldable pub sized : List ℕ → Bool
  sized f = leb trailer_bytes (length f) && leb (length f) (file_length family.most most_terms)

  -- the mark ends the file
  unfoldable pub marked : List ℕ → Bool
  marked f = eqb (word_at f (mark_field f)) family.mark

  -- points_at_terms above; then: the sample distance is the file length, is not below the term distance, and differs from it by a multiple of
  -- the bytes a sample
  unfoldable pub points_at_samples : List ℕ → Bool
  points_at_samples f =
      eqb (samples_back f) (length f) && leb (terms_back f) (samples_back f) && eqb ((samples_back f - terms_back f) % family.bytes) 0

  -- the number of samples: what lies between the first sample and the first term
  unfoldable pub sample_count : List ℕ → ℕ
  sample_count f = (samples_back f - terms_back f) / family.bytes

  -- ---- the file of a form and of samples that are stored in some bytes

  -- the sample distance, the term distance, the number of terms, and the mark
  unfoldable pub trailer : ℕ → ℕ → List ℕ
  trailer samples terms =
      four_bytes (file_length samples terms) ++ four_bytes (terms_distance terms) ++ two_bytes terms ++ two_bytes family.mark

  -- the samples, then the terms, then the trailer
  unfoldable pub file_of : List ℕ → ℕ → List ℕ → List ℕ
  file_of stored samples form = stored ++ in_words form ++ trailer samples (length form)

-- ---- files of counts

-- the words from the first sample up to the first term
unfoldable pub file_samples : List ℕ → List ℕ
file_samples f = words_from f (length f - samples_back f) (sample_count counts_family f)

-- the file of a form and a scan
unfoldable pub counts_file : List ℕ → List ℕ → List ℕ
counts_file form scan = file_of counts_family (in_words scan) (length scan) form
