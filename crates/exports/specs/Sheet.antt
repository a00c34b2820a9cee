-- The night sheet in C: its totals as numbers in the order of its last line, and what a file makes of them.
use Rattle.std.specs.Prelude.{ℕ, List}
use Rattle.limits.specs.Limits.{line_bytes}
use Rattle.refusals.specs.Numbers.{noticed}
use Rattle.refusals.specs.Refusals.{kept}
use Rattle.refusals.specs.Shared.{lent_checked}
use Rattle.reports.specs.Counts.{file_counted}
use Rattle.totals.specs.declared.Outcome.{Outcome}
use Rattle.totals.specs.declared.Outcome.TheVariants.{Opened}
use Rattle.totals.specs.Totals.{added}
pub use Rattle.totals.specs.Totals.{totals_in}
use Rattle.lines.specs.Lines.{in_order}

-- what becomes of the file f when it is opened: it is counted, or refused
abbrev pub outcome_in : List ℕ → Outcome
outcome_in f = Opened (noticed (file_counted f))

-- the numbers after a file, with so many bytes lent for its line: with its outcome, or as they were where 10 is refused
abbrev pub summed : List ℕ → Outcome → ℕ → List ℕ
summed ns o lent = kept (lent_checked line_bytes lent) (in_order (added (totals_in ns) o)) ns
