-- The words of the totals' laws that no contract cites: what becomes of a file, and the running totals.
use Rattle.std.specs.Prelude.{Result}
use Rattle.refusals.specs.declared.Refusal.{Refusal}
use Rattle.refusals.specs.Numbers.{noticed}
use Rattle.reports.specs.declared.Counts.{Counts}
use Rattle.std.specs.Prelude.{ℕ, ◌+◌, List}
use mathlib.Core.List.{Memᴰ, foldl}
use Rattle.files.specs.Causes.{Bytes}
use Rattle.reports.specs.Counts.{Count}
use Rattle.totals.specs.declared.Outcome.{Outcome}
use Rattle.totals.specs.declared.Outcome.TheVariants.{Unopened, Opened}
use Rattle.totals.specs.declared.Totals.{Totals}
use Rattle.totals.specs.Totals.{nothing, added}

-- what can become of a file: it is not opened, or its bytes are counted
pub data OfFile : Outcome → Type 0 where
  not_opened : OfFile Unopened
  opened : (f : List ℕ) → Bytes f → (a : Result Counts Refusal) → Count f a → OfFile (Opened (noticed a))

-- every outcome is one of a file
abbrev pub OfFiles : List Outcome → Type 0
OfFiles outcomes = (o : Outcome) → Memᴰ o outcomes → OfFile o

-- the totals after one file after the other
unfoldable pub running : List Outcome → Totals
running outcomes = foldl added nothing outcomes

-- how many files the totals count: cleaned, not opened, refused under 7, 8, 9, 15, 16, 17 and 18
unfoldable pub files_in : Totals → ℕ
files_in t =
    t.cleaned + t.unopened + t.seven + t.eight + t.nine + t.fifteen + t.sixteen + t.seventeen + t.eighteen
