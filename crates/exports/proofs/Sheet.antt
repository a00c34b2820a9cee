-- The night sheet in C: the line of a file that is opened is the report's, and numbers that are 0 before the night are its totals
-- after it, exactly.
-- Assumes nothing.
use Prim.Native.Nat.{ℕ, ◌≤◌}
use mathlib.Core.Path.{◌≡◌, refl, ap, ◌∙◌}
use mathlib.Core.List.{List, [], ◌∷◌, foldl}
use lib.ListN.{length}
use Rattle.limits.specs.Limits.{line_bytes, most_names}
use Rattle.refusals.specs.Shared.{lent_checked}
use Rattle.totals.specs.declared.Outcome.{Outcome}
use Rattle.totals.specs.declared.Totals.{Totals}
use Rattle.totals.specs.Totals.{nothing, added, totals_of}
use Rattle.totals.specs.Nights.{OfFiles, running}
use Rattle.totals.proofs.Nights.{night_exact}
use Rattle.lines.specs.Lines.{outcome_line, report_line, in_order}
use Rattle.exports.specs.Sheet.{outcome_in, summed}

pub line_of_report : (f : List ℕ) → outcome_line (outcome_in f) ≡ report_line f
line_of_report f = refl

-- the numbers after the calls for one file after the other, each with a line's room
abbrev pub called : List ℕ → List Outcome → List ℕ
called ns outcomes = foldl (λ ns o. summed ns o line_bytes) ns outcomes

-- a call with a line's room adds
summed_fine : (t : Totals) (o : Outcome) → summed (in_order t) o line_bytes ≡ in_order (added t o)
unfolding lent_checked
summed_fine t o = refl

called_running : (t : Totals) (outcomes : List Outcome) → called (in_order t) outcomes ≡ in_order (foldl added t outcomes)
called_running t [] = refl
called_running t (o ∷ outcomes) = rw (summed_fine t o) (called_running (added t o) outcomes)

night_called : (outcomes : List Outcome) → called (in_order nothing) outcomes ≡ in_order (running outcomes)
unfolding running
night_called outcomes = called_running nothing outcomes

pub called_exact : (outcomes : List Outcome) → OfFiles outcomes → length outcomes ≤ most_names
    → called (in_order nothing) outcomes ≡ in_order (totals_of outcomes)
called_exact outcomes h few = night_called outcomes ∙ ap in_order (night_exact outcomes h few)
