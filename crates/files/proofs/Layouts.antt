-- What a file that is laid out well tells: its conditions as facts, and where its samples and terms lie. Over the family.
-- Assumes nothing.
use Rattle.refusals.specs.declared.Refusal.{Refusal}
use Rattle.std.specs.Prelude.{Ok}
use mathlib.Core.Path.{◌≡◌}
use mathlib.Core.Bool.{Bool, true, false, not, ◌&&◌}
use mathlib.Core.List.{List}
use Prim.Native.Nat.{ℕ, ◌+◌, ◌-◌, ◌*◌, ◌≤◌, ◌<◌}
use native.Mathlib.Nat.{mul-le-mul_left, div-add-mod}
use native.Mathlib.Omega.{arith}
use lib.Dec.{leb, eqb}
use lib.ListN.{length}
use borrow.Author.Tests.{leb-true, le-leb, lt-leb, eqb-true, eq-eqb, not-false}
use Rattle.limits.specs.Limits.{word_bytes, trailer_bytes, most_terms, longest_file}
use Rattle.theory.proofs.Tests.{and_left, and_right, and_false}
use Rattle.theory.proofs.Lists.{length-tab}
use Rattle.refusals.specs.Refusals.{refuse_if}
use Rattle.refusals.proofs.Checks.{refuse_no, and_then_fine}
use Rattle.files.specs.declared.Family.{Family}
use Rattle.files.specs.Bytes.{word_at, words_from}
use Rattle.files.specs.Layout.{counts_family, samples_back, terms_back, term_count, terms_distance, points_at_terms, file_terms}
use Rattle.files.specs.Layout.{file_length, sized, marked, points_at_samples, sample_count, file_samples}
use Rattle.files.specs.Files.{layout_checked}
use Rattle.files.specs.Causes.{Laid}

-- a file of no more samples and terms than allowed is no longer than the longest
pub length_most : (family : Family) (samples terms : ℕ) → samples ≤ family.most → terms ≤ most_terms
    → file_length family samples terms ≤ file_length family family.most most_terms
unfolding file_length terms_distance
length_most family samples terms short few = omega (arith, mul-le-mul_left family.bytes short)

-- where nothing is refused, the condition holds
holds : (b : Bool) (r : Refusal) → refuse_if (not b) r ≡ Ok tt → b ≡ true
holds b r e = not-false b (refuse_no (not b) r e)

module _ (family : Family) (f : List ℕ) where
  pub well_laid : layout_checked family f ≡ Ok tt → Laid family f
  unfolding layout_checked sized marked points_at_terms points_at_samples
  well_laid e =
      let a = and_then_fine _ _ e in
      let b = and_then_fine _ _ a.1 in
      let c = and_then_fine _ _ b.1 in
      let size = holds (sized family f) _ a.0 in
      let distance = holds (points_at_samples family f) _ c.1 in
      let front = and_left (eqb (samples_back f) (length f) && leb (terms_back f) (samples_back f)) _ distance in
      record {
        long_enough = leb-true _ _ (and_left _ _ size);
        short_enough = leb-true _ _ (and_right (leb trailer_bytes (length f)) _ size);
        mark = eqb-true _ _ (holds (marked family f) _ b.0);
        to_terms = eqb-true _ _ (holds (points_at_terms f) _ c.0);
        to_samples = eqb-true _ _ (and_left _ _ front);
        in_order = leb-true _ _ (and_right (eqb (samples_back f) (length f)) _ front);
        whole_samples = eqb-true _ _ (and_right (eqb (samples_back f) (length f) && leb (terms_back f) (samples_back f)) _ distance);
      }

  pub laid_well : Laid family f → layout_checked family f ≡ Ok tt
  unfolding layout_checked sized marked points_at_terms points_at_samples
  laid_well l =
      simp (
        le-leb _ _ l.long_enough,
        le-leb _ _ l.short_enough,
        eq-eqb _ _ l.mark,
        eq-eqb _ _ l.to_terms,
        eq-eqb _ _ l.to_samples,
        le-leb _ _ l.in_order,
        eq-eqb _ _ l.whole_samples,
      )

-- a file of counts that is longer than the longest
pub too_long : (f : List ℕ) → longest_file < length f → sized counts_family f ≡ false
unfolding sized file_length terms_distance
too_long f long = rw (lt-leb _ _ long) (and_false (leb trailer_bytes (length f)))

-- ---- where the samples and the terms lie

pub length_words : (f : List ℕ) (at n : ℕ) → length (words_from f at n) ≡ n
unfolding words_from
length_words f at n = length-tab n (λ i. word_at f (at + word_bytes * i))

pub samples_counted : (f : List ℕ) → length (file_samples f) ≡ sample_count counts_family f
unfolding file_samples
samples_counted f = length_words f _ _

pub terms_counted : (f : List ℕ) → length (file_terms f) ≡ term_count f
unfolding file_terms
terms_counted f = length_words f _ _

module _ (family : Family) (f : List ℕ) (l : Laid family f) where
  -- the samples, the terms and the trailer are the whole file
  pub whole : length f ≡ file_length family (sample_count family f) (term_count f)
  unfolding file_length sample_count
  whole =
      let parts = div-add-mod (samples_back f - terms_back f) family.bytes in
      omega (arith, parts, l.whole_samples, l.in_order, l.to_samples, l.to_terms)

  -- the terms follow the samples
  pub first_term : length f - terms_back f ≡ family.bytes * sample_count family f
  unfolding file_length
  first_term = omega (arith, whole, l.to_terms)

-- the samples begin the file
pub samples_lie : (f : List ℕ) → Laid counts_family f → file_samples f ≡ words_from f 0 (sample_count counts_family f)
unfolding file_samples
samples_lie f l = let z : length f - samples_back f ≡ 0 = omega (arith, l.to_samples) in rw z
