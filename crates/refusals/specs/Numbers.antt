-- Each refusal's number and place, as document 01's table has them.
use Rattle.std.specs.Prelude.{ℕ, Result, Ok, Err}
use Rattle.refusals.specs.declared.Notice.{Notice}
use Rattle.refusals.specs.declared.Refusal.{Refusal}
use Rattle.refusals.specs.declared.Refusal.TheVariants.{RecipeLength, StepCode, StepField, SignalsHeld, Reach, TermsLent, BadTerm, TermCount, ScanLength, OutputLength, NotPositive, TableLength, PresetNumber, FileLength, Mark, TermDistance, SampleDistance, BadName, NameCount}

-- a number and a place
abbrev pub notice : ℕ → ℕ → Notice
notice n p = record { number = n; place = p }

-- the table
abbrev pub notice_of : Refusal → Notice
notice_of (RecipeLength length) = notice 1 length
notice_of (StepCode step) = notice 2 step
notice_of (StepField step) = notice 3 step
notice_of (SignalsHeld step) = notice 4 step
notice_of (Reach step) = notice 5 step
notice_of (TermsLent needed) = notice 6 needed
notice_of (BadTerm index) = notice 7 index
notice_of (TermCount terms) = notice 8 terms
notice_of (ScanLength samples) = notice 9 samples
notice_of (OutputLength needed) = notice 10 needed
notice_of (NotPositive pattern) = notice 12 pattern
notice_of (TableLength length) = notice 13 length
notice_of (PresetNumber preset) = notice 14 preset
notice_of (FileLength length) = notice 15 length
notice_of (Mark byte) = notice 16 byte
notice_of (TermDistance byte) = notice 17 byte
notice_of (SampleDistance byte) = notice 18 byte
notice_of (BadName line) = notice 19 line
notice_of (NameCount most) = notice 20 most

-- what a call answered, its refusal as a number and a place
abbrev pub noticed : {A : Type 0} → Result A Refusal → Result A Notice
noticed (Ok a) = Ok a
noticed (Err r) = Err (notice_of r)
