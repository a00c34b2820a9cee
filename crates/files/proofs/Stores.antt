-- How long what is stored is.
-- Assumes nothing.
use mathlib.Core.Path.{◌≡◌, refl}
use mathlib.Core.List.{List, [], ◌∷◌, ◌++◌}
use Prim.Native.Nat.{ℕ, ◌*◌}
use native.Mathlib.Omega.{arith}
use lib.ListN.{length, length-append}
use Rattle.limits.specs.Limits.{word_bytes, trailer_bytes}
use Rattle.files.specs.declared.Family.{Family}
use Rattle.files.specs.Bytes.{two_bytes, four_bytes, in_words}
use Rattle.files.specs.Layout.{terms_distance, file_length, trailer, file_of}

-- a distance in the trailer is a number of two words
abbrev pub long_bytes : ℕ
long_bytes = 2 * word_bytes

pub length-in_words : (xs : List ℕ) → length (in_words xs) ≡ word_bytes * length xs
unfolding in_words two_bytes
length-in_words [] = refl
length-in_words (x ∷ xs) = omega (arith, length-in_words xs)

module _ (family : Family) where
  pub length-trailer : (samples terms : ℕ) → length (trailer family samples terms) ≡ trailer_bytes
  unfolding trailer four_bytes two_bytes
  length-trailer samples terms = refl

  -- the file of samples that take the family's bytes
  pub length-file : (stored : List ℕ) (samples : ℕ) (form : List ℕ) → length stored ≡ family.bytes * samples
      → length (file_of family stored samples form) ≡ file_length family samples (length form)
  unfolding file_of file_length terms_distance
  length-file stored samples form e =
      let t = trailer family samples (length form) in
      let joined = length-append (stored ++ in_words form) t in
      omega (arith, joined, length-append stored (in_words form), e, length-in_words form, length-trailer samples (length form))
