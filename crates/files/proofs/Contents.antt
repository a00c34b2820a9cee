-- A file and its contents, over the family: the file of a form and of stored samples is laid out well and holds them, and a file that is
-- laid out well is the file of what it holds. So no other file holds the same.
-- Assumes nothing.
use mathlib.Core.Path.{◌≡◌, sym, ap, ap₂, ◌∙◌}
use mathlib.Core.List.{List, [], ◌++◌, append_assoc}
use Prim.Native.Nat.{ℕ, ◌+◌, ◌-◌, ◌*◌, ◌≤◌, ◌<◌}
use native.Mathlib.Nat.{mul-mod_right, mul-div_cancel_left}
use native.Mathlib.Omega.{arith}
use lib.ListN.{length, take, drop, length-append}
use lib.Seq.{take_all}
use Rattle.limits.specs.Limits.{word_bytes, trailer_bytes, most_terms}
use Rattle.theory.proofs.Slices.{parts}
use Rattle.files.specs.declared.Family.{Family}
use Rattle.files.specs.Bytes.{two_bytes, four_bytes, in_words, word_at, long_at}
use Rattle.files.specs.Layout.{counts_family}
use Rattle.files.specs.Layout.{samples_back, terms_back, term_count, terms_distance, file_terms}
use Rattle.files.specs.Layout.{file_length, sample_count, trailer, file_of, file_samples, counts_file}
use Rattle.files.specs.Causes.{Bytes, Laid}
use Rattle.files.proofs.Layouts.{length_most, whole, first_term, terms_counted, samples_counted, samples_lie}
use Rattle.files.proofs.Stores.{long_bytes, length-in_words, length-file}
use Rattle.files.proofs.Words.{word_behind, long_behind, words_back, word_bytes_lem, long_bytes_lem, words_bytes}

-- ---- the file of a form and of samples that take the family's bytes

module _ (family : Family) (stored : List ℕ) (samples : ℕ) (form : List ℕ) (fits : length stored ≡ family.bytes * samples) where
  abbrev file : List ℕ
  file = file_of family stored samples form

  abbrev end : List ℕ
  end = trailer family samples (length form)

  -- a place of the trailer, as a place of the file
  trailer_place : (k : ℕ) → k ≤ trailer_bytes → length file - (trailer_bytes - k) ≡ length (stored ++ in_words form) + k
  unfolding file_length terms_distance
  trailer_place k h =
      omega (arith, length-file family stored samples form fits, length-append stored (in_words form), length-in_words form, fits)

  trailer_word : (k : ℕ) → k ≤ trailer_bytes → word_at file (length file - (trailer_bytes - k)) ≡ word_at end k
  unfolding file_of
  trailer_word k h = rw (trailer_place k h) (word_behind (stored ++ in_words form) end k)

  trailer_long : (k : ℕ) → k ≤ trailer_bytes → long_at file (length file - (trailer_bytes - k)) ≡ long_at end k
  unfolding file_of
  trailer_long k h = rw (trailer_place k h) (long_behind (stored ++ in_words form) end k)

  samples_back_of : samples_back file ≡ file_length family samples (length form)
  unfolding samples_back long_at word_at trailer four_bytes two_bytes
  samples_back_of = trailer_long 0 (omega arith) ∙ omega arith

  terms_back_of : terms_back file ≡ terms_distance (length form)
  unfolding terms_back long_at word_at trailer four_bytes two_bytes
  terms_back_of = trailer_long long_bytes (omega arith) ∙ omega arith

  term_count_of : term_count file ≡ length form
  unfolding term_count word_at trailer four_bytes two_bytes
  term_count_of = trailer_word (2 * long_bytes) (omega arith) ∙ omega arith

  mark_of : word_at file (length file - word_bytes) ≡ family.mark
  unfolding word_at trailer four_bytes two_bytes
  mark_of = trailer_word (2 * long_bytes + word_bytes) (omega arith) ∙ omega arith

  between : samples_back file - terms_back file ≡ family.bytes * samples
  unfolding file_length
  between = omega (arith, samples_back_of, terms_back_of)

  -- it is laid out well
  pub file_laid : length form ≤ most_terms → samples ≤ family.most → Laid family file
  unfolding file_length terms_distance
  file_laid few short =
      let n = length-file family stored samples form fits in
      record {
        long_enough = omega (arith, n);
        short_enough = omega (arith, n, length_most family samples (length form) short few);
        mark = mark_of;
        to_terms = terms_back_of ∙ ap terms_distance (sym term_count_of);
        to_samples = samples_back_of ∙ sym n;
        in_order = omega (arith, terms_back_of, samples_back_of);
        whole_samples = rw between (mul-mod_right family.bytes samples);
      }

  -- it has so many samples, and its terms are the form
  pub count_of : 0 < family.bytes → sample_count family file ≡ samples
  unfolding sample_count
  count_of wide = rw between (mul-div_cancel_left samples wide)

  pub terms_of : file_terms file ≡ form
  unfolding file_terms file_length file_of
  terms_of =
      let start : length file - terms_back file ≡ length stored =
      omega (arith, terms_back_of, length-file family stored samples form fits, fits) in
      rw (start, term_count_of, append_assoc stored (in_words form) end) (words_back stored form end)

-- ---- a file that is laid out well

module _ (family : Family) (f : List ℕ) (ok : Bytes f) (l : Laid family f) where
  trailer_bytes_lem : trailer family (sample_count family f) (length (file_terms f)) ≡ take trailer_bytes (drop (length f - trailer_bytes) f)
  unfolding trailer samples_back terms_back term_count
  trailer_bytes_lem =
      let n = length f in
      let size = l.long_enough in
      let terms = terms_counted f in
      let all = ap (file_length family (sample_count family f)) terms ∙ sym (whole family f l) ∙ sym l.to_samples in
      let back = ap four_bytes all ∙ long_bytes_lem f ok (n - trailer_bytes) (omega arith) in
      let right = ap terms_distance terms ∙ sym l.to_terms in
      let to_terms = ap four_bytes right ∙ long_bytes_lem f ok (n - (trailer_bytes - long_bytes)) (omega arith) in
      let count = ap two_bytes terms ∙ word_bytes_lem f ok (n - (2 * word_bytes)) (omega arith) in
      let mark = ap two_bytes (sym l.mark) ∙ word_bytes_lem f ok (n - word_bytes) (omega arith) in
      let distances = ap₂ ◌++◌ back to_terms ∙ parts f (n - trailer_bytes) (n - (trailer_bytes - long_bytes)) 4 4 (omega arith) in
      let numbers = ap₂ ◌++◌ distances count ∙ parts f (n - trailer_bytes) (n - (2 * word_bytes)) 8 2 (omega arith) in
      ap₂ ◌++◌ numbers mark ∙ parts f (n - trailer_bytes) (n - word_bytes) 10 2 (omega arith)

  -- it is the file of what it holds: the bytes of its samples, and its terms
  pub file_of_contents : file_of family (take (family.bytes * sample_count family f) f) (sample_count family f) (file_terms f) ≡ f
  unfolding file_of file_terms file_length terms_distance
  file_of_contents =
      let n = length f in
      let front = family.bytes * sample_count family f in
      let back = word_bytes * term_count f in
      let size = whole family f l in
      let start = first_term family f l in
      let form = words_bytes f ok (n - terms_back f) (term_count f) (omega arith) ∙ ap (λ (k : ℕ). take back (drop k f)) start in
      ap₂ ◌++◌ (ap (λ (ts : List ℕ). take front f ++ ts) form ∙ parts f 0 front front back (omega arith)) trailer_bytes_lem
      ∙ parts f 0 (n - trailer_bytes) (front + back) trailer_bytes (omega arith)
      ∙ take_all (front + back + trailer_bytes) f (omega arith)

-- ---- files of counts

module _ (form scan : List ℕ) where
  counts_fit : length (in_words scan) ≡ counts_family.bytes * length scan
  counts_fit = length-in_words scan

  pub length_counts : length (counts_file form scan) ≡ file_length counts_family (length scan) (length form)
  unfolding counts_file
  length_counts = length-file counts_family (in_words scan) (length scan) form counts_fit

  pub counts_terms : file_terms (counts_file form scan) ≡ form
  unfolding counts_file
  counts_terms = terms_of counts_family (in_words scan) (length scan) form counts_fit

  -- the samples are the scan
  pub counts_samples : file_samples (counts_file form scan) ≡ scan
  unfolding file_samples counts_file file_of
  counts_samples =
      let f = counts_file form scan in
      let t = trailer counts_family (length scan) (length form) in
      let back = samples_back_of counts_family (in_words scan) (length scan) form counts_fit in
      let start : length f - samples_back f ≡ 0 = omega (arith, back, length_counts) in
      let count = count_of counts_family (in_words scan) (length scan) form counts_fit (omega arith) in
      rw (start, count, append_assoc (in_words scan) (in_words form) t) (words_back [] scan (in_words form ++ t))

-- a file of counts is that of its form and its scan
pub counts_of_contents : (f : List ℕ) → Bytes f → Laid counts_family f → counts_file (file_terms f) (file_samples f) ≡ f
unfolding counts_file file_length
counts_of_contents f ok l =
    let n = sample_count counts_family f in
    let size = whole counts_family f l in
    let stored : in_words (file_samples f) ≡ take (counts_family.bytes * n) f =
    ap in_words (samples_lie f l) ∙ words_bytes f ok 0 n (omega arith) in
    rw (stored, samples_counted f) (file_of_contents counts_family f ok l)

-- so it is the only one that holds them
pub only_file : (f g : List ℕ) → Bytes f → Bytes g → Laid counts_family f → Laid counts_family g
    → file_samples f ≡ file_samples g → file_terms f ≡ file_terms g → f ≡ g
only_file f g a b l m s t = sym (counts_of_contents f a l) ∙ ap₂ counts_file t s ∙ counts_of_contents g b m
