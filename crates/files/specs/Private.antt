-- Only private contracts cite this: which families the code can use, what a file's trailer says and how it is stored, and words as numbers.
use Rattle.std.specs.Prelude.{◌^◌, ◌<◌, ◌++◌, ℕ, List, map}
use Rattle.std.specs.Int.{w16, from_le_bytes}
use Rattle.std.proofs.Common.{arith}
use Rattle.limits.specs.Limits.{most_terms}
use Rattle.files.specs.declared.Family.{Family}
use Rattle.files.specs.declared.Trailer.{Trailer}
use Rattle.files.specs.Bytes.{two_bytes, four_bytes, word_at}
use Rattle.files.specs.Layout.{counts_family, file_length, terms_distance, mark_field, samples_back, terms_back, term_count}

-- samples take room, and a file's length is a number of four bytes
pub record Usable (family : Family) : Type 0 where
  pub wide : 0 < family.bytes
  pub low : file_length family family.most most_terms < 2 ^ 32

-- so it is of counts
pub counts_usable : Usable counts_family
unfolding file_length terms_distance
counts_usable = record { wide = omega arith; low = omega arith }

-- the trailer of a file
abbrev pub trailer_of : List ℕ → Trailer
trailer_of f = record { to_samples = samples_back f; to_terms = terms_back f; terms = term_count f; mark = word_at f (mark_field f) }

-- the bytes of a trailer
abbrev pub stored : Trailer → List ℕ
stored t = four_bytes t.to_samples ++ four_bytes t.to_terms ++ two_bytes t.terms ++ two_bytes t.mark

-- the numbers that words are, low byte first
abbrev pub numbers : List (List ℕ) → List ℕ
numbers = map (from_le_bytes w16)
