-- The lines that the report program and the night sheet print: "Single spaces stand between fields and one line feed at the end." Bytes
-- are ASCII.
use Rattle.std.specs.Prelude.{ℕ, suc, ◌^◌, List, [], ◌∷◌, ◌++◌, map, ltb, length, Result, Ok, Err}
use Rattle.io.specs.Digits.{last_digits}
use Rattle.limits.specs.Limits.{line_bytes}
use Rattle.theory.specs.Lists.{first}
use Rattle.refusals.specs.declared.Refusal.{Refusal}
use Rattle.refusals.specs.declared.Notice.{Notice}
use Rattle.refusals.specs.Numbers.{noticed}
use Rattle.refusals.specs.Shared.{lent_checked}
use Rattle.refusals.specs.Promise.{Gives}
use Rattle.reports.specs.declared.Counts.{Counts}
use Rattle.reports.specs.Counts.{file_counted}
use Rattle.totals.specs.declared.Outcome.{Outcome}
use Rattle.totals.specs.declared.Outcome.TheVariants.{Unopened, Opened}
use Rattle.totals.specs.declared.Totals.{Totals}
pub use Rattle.totals.specs.Totals.{in_order}

-- how many decimal digits a number has: the fewest that hold it, and at least one
unfoldable pub digits_of : ℕ → ℕ
digits_of n = suc (first (λ k. ltb n (10 ^ suc k)) n)

-- a number in decimal digits
unfoldable pub decimal : ℕ → List ℕ
decimal n = last_digits 10 (digits_of n) n

-- fields on a line: a space (32) between two of them, a line feed (10) at the end
unfoldable pub line_of : List (List ℕ) → List ℕ
line_of [] = 10 ∷ []
line_of (field ∷ []) = field ++ (10 ∷ [])
line_of (field ∷ next ∷ fields) = field ++ (32 ∷ line_of (next ∷ fields))

-- samples, changed samples, spikes, total of positive residues, total of negative residues with the sign dropped
unfoldable pub counts_line : Counts → List ℕ
counts_line c =
    line_of (decimal c.samples ∷ decimal c.changed ∷ decimal c.spikes ∷ decimal c.up ∷ decimal c.down ∷ [])

-- the word `refused`
unfoldable pub refused_word : List ℕ
refused_word = 114 ∷ 101 ∷ 102 ∷ 117 ∷ 115 ∷ 101 ∷ 100 ∷ []

-- `refused`, number, place
unfoldable pub refused_line : Notice → List ℕ
refused_line r = line_of (refused_word ∷ decimal r.number ∷ decimal r.place ∷ [])

-- the word `unopened`
unfoldable pub unopened_word : List ℕ
unopened_word = 117 ∷ 110 ∷ 111 ∷ 112 ∷ 101 ∷ 110 ∷ 101 ∷ 100 ∷ []

-- `unopened` alone
unfoldable pub unopened_line : List ℕ
unopened_line = line_of (unopened_word ∷ [])

-- the night sheet's line of a file: `unopened`, its counts, or why it is refused
unfoldable pub outcome_line : Outcome → List ℕ
outcome_line Unopened = unopened_line
outcome_line (Opened (Ok c)) = counts_line c
outcome_line (Opened (Err r)) = refused_line r

-- the report's line of the file f: that of what counting it answers
abbrev pub report_line : List ℕ → List ℕ
report_line f = outcome_line (Opened (noticed (file_counted f)))

-- the night sheet's last line: its totals
unfoldable pub totals_line : Totals → List ℕ
totals_line t = line_of (map decimal (in_order t))

-- a line from the start of the slice lent, and its length; 10 where the slice has another length than the room that it wants
abbrev pub Writes : ℕ → List ℕ → List ℕ → List ℕ → Result ℕ Refusal → Type 0
Writes room text = Gives (lent_checked room) (length text) text

-- the line of a file
abbrev pub Line : List ℕ → List ℕ → List ℕ → Result ℕ Refusal → Type 0
Line f = Writes line_bytes (report_line f)
