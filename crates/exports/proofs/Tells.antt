-- The numbers in the answers of the root question, of reading and of counting, by the call's check.
-- Assumes nothing.
use Rattle.std.specs.Prelude.{Result, Ok, Err, Option}
use Rattle.refusals.specs.declared.Refusal.{Refusal}
use Rattle.refusals.specs.Refusals.{Checked, and_then, kept}
use Prim.Native.Nat.{ℕ}
use mathlib.Core.Path.{◌≡◌, refl}
use mathlib.Core.Bool.{true, false}
use mathlib.Core.List.{List, [], ◌∷◌}
use mathlib.Core.Logic.{◌⊎◌, inl, inr}
use lib.ListN.{length}
use Rattle.theory.specs.Lists.{first, any_below}
use Rattle.theory.specs.Signals.{held, filtered_at}
use Rattle.theory.proofs.Tests.{which}
use Rattle.theory.proofs.Lists.{first_none, any_below_no}
use Rattle.scans.specs.Run.{Root, root_checked, differs, root_found}
use Rattle.files.specs.Layout.{counts_family, file_terms, file_samples}
use Rattle.files.specs.declared.Sizes.{Sizes}
use Rattle.files.specs.Files.{sizes, Read, read_checked, file_checked}
use Rattle.reports.specs.declared.Counts.{Counts}
use Rattle.reports.specs.Counts.{Count, counts_of, counts_in}
use Rattle.exports.specs.Private.{sample_in, samples_in, terms_in, counted_in, five_in}

-- what is made of an answer is made of either case
told_of : {A : Type 0} (c : Checked) (f : Result A Refusal → Result ℕ Refusal) (a : A) (n : ℕ) → f (Ok a) ≡ Ok n → ((r : Refusal) → f (Err r) ≡ Err r)
    → f (and_then c (Ok a)) ≡ and_then c (Ok n)
told_of (Ok tt) f a n e h = e
told_of (Err r) f a n e h = h r

left_of : {A B : Type 0} (c : Checked) (f : Result A Refusal → B) (a : A) (b : B) → ((r : Refusal) → f (Err r) ≡ b)
    → f (and_then c (Ok a)) ≡ kept c (f (Ok a)) b
left_of (Ok tt) f a b h = refl
left_of (Err r) f a b h = h r

-- the root question: the first sample that differs is the number of samples where none does
sample_found : (f : ℕ → ℕ) (s : List ℕ) → sample_in (Ok (root_found f s)) (length s) ≡ Ok (first (differs f s) (length s))
unfolding root_found
sample_found f s = go (which (any_below (differs f s) (length s)))
  where
    go : (any_below (differs f s) (length s) ≡ true) ⊎ (any_below (differs f s) (length s) ≡ false)
        → sample_in (Ok (root_found f s)) (length s) ≡ Ok (first (differs f s) (length s))
    go (inl e) = rw e
    go (inr e) = rw (e, first_none (differs f s) (length s) (any_below_no (differs f s) (length s) e))

pub root_sample : (ts s : List ℕ) {a : Result (Option ℕ) Refusal} → Root ts s a
    → sample_in a (length s) ≡ and_then (root_checked ts s) (Ok (first (differs (filtered_at held ts s) s) (length s)))
root_sample ts s e =
    let f = filtered_at held ts s in
    rw e (told_of (root_checked ts s) (λ a. sample_in a (length s)) (root_found f s) _ (sample_found f s) (λ r. refl))

-- reading: the numbers of samples and of terms
module _ {f samples samples' terms terms' : List ℕ} {a : Result Sizes Refusal} (done : Read f samples samples' terms terms' a) where
  abbrev check : Checked
  check = read_checked counts_family f (length samples) (length terms)

  abbrev both : Sizes
  both = sizes (length (file_samples f)) (length (file_terms f))

  pub read_samples : samples_in a ≡ and_then check (Ok (length (file_samples f)))
  read_samples = rw done.answer (told_of check samples_in both _ refl (λ r. refl))

  pub read_terms : (before : ℕ) → terms_in a before ≡ kept check (length (file_terms f)) before
  read_terms before = rw done.answer (left_of check (λ a. terms_in a before) both before (λ r. refl))

-- counting: the number of samples, and the five numbers
module _ (f : List ℕ) {a : Result Counts Refusal} (done : Count f a) where
  abbrev counts : Counts
  counts = counts_in f

  pub count_samples : counted_in a ≡ and_then (file_checked counts_family f) (Ok (length (file_samples f)))
  unfolding counts_of
  count_samples = rw done (told_of (file_checked counts_family f) counted_in counts _ refl (λ r. refl))

  pub count_five : (before : List ℕ)
      → five_in a before
      ≡ kept (file_checked counts_family f) (counts.samples ∷ counts.changed ∷ counts.spikes ∷ counts.up ∷ counts.down ∷ []) before
  count_five before = rw done (left_of (file_checked counts_family f) (λ a. five_in a before) counts before (λ r. refl))
