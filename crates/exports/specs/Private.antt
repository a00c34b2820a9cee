-- Only private contracts cite this: the answers of the calls with answers of their own, as what C is told.
use Rattle.std.specs.Prelude.{ℕ, List, Result, Ok, Err, Option, Some, None}
use Rattle.refusals.specs.declared.Refusal.{Refusal}
use Rattle.files.specs.declared.Sizes.{Sizes}
use Rattle.reports.specs.declared.Counts.{Counts}
use Rattle.reports.specs.Counts.{five}

-- the root question, on so many samples: the first that differs, or their number where none does
abbrev pub sample_in : Result (Option ℕ) Refusal → ℕ → Result ℕ Refusal
sample_in (Ok None) samples = Ok samples
sample_in (Ok (Some x)) samples = Ok x
sample_in (Err r) samples = Err r

-- reading: the number of samples
abbrev pub samples_in : Result Sizes Refusal → Result ℕ Refusal
samples_in (Ok sizes) = Ok sizes.samples
samples_in (Err r) = Err r

-- reading: the number of terms; as it was, where nothing was read
abbrev pub terms_in : Result Sizes Refusal → ℕ → ℕ
terms_in (Ok sizes) before = sizes.terms
terms_in (Err r) before = before

-- counting: the number of samples
abbrev pub counted_in : Result Counts Refusal → Result ℕ Refusal
counted_in (Ok c) = Ok c.samples
counted_in (Err r) = Err r

-- counting: the five numbers in the printed order; as they were, where nothing was counted
abbrev pub five_in : Result Counts Refusal → List ℕ → List ℕ
five_in (Ok c) before = five c
five_in (Err r) before = before
