-- What an outcome of a file adds to the totals: 1 to one of the nine numbers of files, and to every field at most 65,535 times 16,384.
-- Assumes nothing.
use Rattle.std.specs.Prelude.{Result, Err}
use Rattle.refusals.specs.declared.Notice.{Notice}
use Rattle.refusals.specs.Numbers.{notice_of, noticed}
use Rattle.std.specs.Prelude.{Ok}
use Rattle.refusals.specs.Refusals.{Checked, and_then}
use Rattle.std.proofs.Common.{◌≡◌, ℕ, ◌*◌, ◌≤◌, eqb, List, refl, arith}
use Rattle.limits.specs.Limits.{top, most_samples}
use Rattle.theory.specs.Lists.{bit}
use Rattle.theory.proofs.Lists.{bit_lt}
use Rattle.files.specs.Layout.{counts_family}
use Rattle.files.specs.Files.{file_checked}
use Rattle.files.specs.Causes.{Bytes}
use Rattle.files.proofs.Refused.{IfRefused, file_refused}
use Rattle.reports.specs.declared.Counts.{Counts}
use Rattle.reports.specs.Counts.{counts_in, file_counted}
use Rattle.reports.proofs.Bounds.{Most, accepted_most}
use Rattle.totals.specs.declared.Outcome.{Outcome}
use Rattle.totals.specs.declared.Outcome.TheVariants.{Unopened, Opened}
use Rattle.totals.specs.Totals.{of_unopened, of_refused, of_cleaned, adds}
use Rattle.totals.specs.Nights.{OfFile, not_opened, opened, files_in}
use Rattle.totals.proofs.Fields.{Field, at, cleaned, unopened, seven, eight, nine, fifteen, sixteen, seventeen, eighteen}
use Rattle.totals.proofs.Fields.{samples, changed, spikes, up, down}

-- a refusal under one of the numbers that are counted
abbrev Known : Notice → Type 0
Known r = files_in (adds (Opened (Err r))) ≡ 1

-- what is known of an outcome of a file
abbrev pub Lands : Outcome → Type 0
Lands Unopened = Unit
Lands (Opened (Ok c)) = Most (top * most_samples) c
Lands (Opened (Err r)) = Known r

-- a claim holds of what counting a file answers where it holds of counts as large as a file's, and of the file's refusal
pub by_count : (P : Result Counts Notice → Type 0) (f : List ℕ) → Bytes f → ((c : Counts) → Most (top * most_samples) c → P (Ok c))
    → IfRefused (λ r. P (Err (notice_of r))) (file_checked counts_family f) → P (noticed (file_counted f))
by_count P f bytes counted = go (file_checked counts_family f) (accepted_most f bytes)
  where
    go : (c : Checked) → (c ≡ Ok tt → Most (top * most_samples) (counts_in f)) → IfRefused (λ r. P (Err (notice_of r))) c
        → P (noticed (and_then c (Ok (counts_in f))))
    go (Ok tt) most refused = counted (counts_in f) (most refl)
    go (Err r) most refused = refused

pub file_lands : {o : Outcome} → OfFile o → Lands o
unfolding files_in adds of_unopened of_refused of_cleaned bit
file_lands not_opened = tt
file_lands (opened f bytes a e) =
    rw e (by_count (λ a. Lands (Opened a)) f bytes (λ c most. most) (file_refused (λ r. Known (notice_of r)) counts_family f refl refl refl refl refl refl refl))

-- it is one file
pub adds_one : (o : Outcome) → Lands o → files_in (adds o) ≡ 1
unfolding files_in adds of_unopened of_refused of_cleaned
adds_one Unopened l = refl
adds_one (Opened (Ok c)) l = refl
adds_one (Opened (Err r)) l = l

-- ---- it adds so much at the most

unopened_most : (o : Outcome) → of_unopened o ≤ top * most_samples
unfolding of_unopened
unopened_most Unopened = omega arith
unopened_most (Opened a) = omega arith

refused_most : (n : ℕ) (o : Outcome) → of_refused n o ≤ top * most_samples
unfolding of_refused
refused_most n Unopened = omega arith
refused_most n (Opened (Ok c)) = omega arith
refused_most n (Opened (Err r)) = omega (arith, bit_lt (eqb r.number n))

cleaned_most : (number : Counts → ℕ) → ((c : Counts) → Most (top * most_samples) c → number c ≤ top * most_samples)
    → (o : Outcome) → Lands o → of_cleaned number o ≤ top * most_samples
unfolding of_cleaned
cleaned_most number h Unopened l = omega arith
cleaned_most number h (Opened (Ok c)) l = h c l
cleaned_most number h (Opened (Err r)) l = omega arith

pub adds_most : (o : Outcome) → Lands o → (field : Field) → at field (adds o) ≤ top * most_samples
unfolding adds
adds_most o l cleaned = cleaned_most (λ c. 1) (λ c m. omega arith) o l
adds_most o l unopened = unopened_most o
adds_most o l seven = refused_most 7 o
adds_most o l eight = refused_most 8 o
adds_most o l nine = refused_most 9 o
adds_most o l fifteen = refused_most 15 o
adds_most o l sixteen = refused_most 16 o
adds_most o l seventeen = refused_most 17 o
adds_most o l eighteen = refused_most 18 o
adds_most o l samples = cleaned_most (λ c. c.samples) (λ c m. m.samples) o l
adds_most o l changed = cleaned_most (λ c. c.changed) (λ c m. m.changed) o l
adds_most o l spikes = cleaned_most (λ c. c.spikes) (λ c m. m.spikes) o l
adds_most o l up = cleaned_most (λ c. c.up) (λ c m. m.up) o l
adds_most o l down = cleaned_most (λ c. c.down) (λ c m. m.down) o l
