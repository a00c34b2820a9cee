-- What users rely on of the night sheet: a sentence and a theorem each, proved by citing. All that is claimed is in specs/ and here.
-- Assumes nothing.
use Rattle.std.specs.Prelude.{Err}
use Rattle.refusals.specs.declared.Refusal.TheVariants.{NameCount}
use Prim.Native.Nat.{ℕ, ◌≤◌}
use mathlib.Core.Path.{◌≡◌}
use mathlib.Core.Bool.{true}
use mathlib.Core.List.{List, ◌++◌, foldl, flatten}
use lib.ListN.{length}
use Rattle.limits.specs.Limits.{most_names}
use Rattle.lists.specs.Names.{list_checked}
use Rattle.lists.specs.Judge.{fresh, judged, is_over, verdict_of}
use Rattle.lists.proofs.Cuts.{cut_anywhere, over_stays}
use Rattle.totals.specs.declared.Outcome.{Outcome}
use Rattle.totals.specs.Totals.{totals_of}
use Rattle.totals.specs.Nights.{OfFiles, running, files_in}
use Rattle.lines.specs.Lines.{totals_line}
use Rattle.claims.specs.Words.{lines_above}
use Rattle.claims.proofs.Sheets.{line_below, files_below}

-- However a list is cut into pieces, its verdict is that of the whole text: 20, 19, or none.
pub list_cut_anywhere : (pieces : List (List ℕ)) → verdict_of (foldl judged fresh pieces) ≡ list_checked (flatten pieces)
list_cut_anywhere = cut_anywhere

-- Once line 251 has begun the verdict is 20 at 250, and so is that of the text with anything behind it: no more need be read.
pub long_list_refused : (pieces : List (List ℕ)) (more : List ℕ) → is_over (foldl judged fresh pieces) ≡ true
    → (verdict_of (foldl judged fresh pieces) ≡ Err (NameCount most_names))
    × (list_checked (flatten pieces ++ more) ≡ Err (NameCount most_names))
long_list_refused = over_stays

module _ (outcomes : List Outcome) (files : OfFiles outcomes) (few : length outcomes ≤ most_names) where
  -- The totals are those of the lines above them: of at most 250 files, whatever outcomes these lines are the lines of, the last line is that
  -- of their totals. So the lines alone decide it, and nothing wraps.
  pub totals_of_the_lines_above : (told : List Outcome) → lines_above told ≡ lines_above outcomes
      → totals_line (running outcomes) ≡ totals_line (totals_of told)
  totals_of_the_lines_above = line_below outcomes files few

  -- Every file is counted once: as cleaned, not opened, or refused under 7, 8, 9, 15, 16, 17 or 18.
  pub files_counted : files_in (running outcomes) ≡ length outcomes
  files_counted = files_below outcomes files few
