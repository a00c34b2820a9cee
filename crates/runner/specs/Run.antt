-- Running a recipe directly: its value at each sample, on the scan's endless signal.
use Rattle.std.specs.Prelude.{Result}
use Rattle.refusals.specs.declared.Refusal.{Refusal}
use Rattle.refusals.specs.Refusals.{Checked}
use Rattle.std.specs.Prelude.{List, ℕ, length}
use Rattle.limits.specs.Limits.{most_samples}
use Rattle.theory.specs.Lists.{tab}
use Rattle.theory.specs.Signals.{Ends, held}
use Rattle.refusals.specs.Refusals.{and_then}
use Rattle.refusals.specs.Shared.{scan_checked, lent_checked}
use Rattle.refusals.specs.Promise.{Gives}
use Rattle.recipes.specs.Judge.{recipe_checked}
use Rattle.recipes.specs.Meaning.{value_at}

-- the recipe's value at each sample, under an ends rule
unfoldable pub ran : Ends → List ℕ → List ℕ → List ℕ
ran ends r s = tab (length s) (value_at ends r s)

-- running a recipe directly: 1 to 5, 9, 10
unfoldable pub recipe_run_checked : List ℕ → List ℕ → ℕ → Checked
recipe_run_checked r s lent = and_then (recipe_checked r) (and_then (scan_checked most_samples (length s)) (lent_checked (length s) lent))

-- what the call answers and leaves in the slice: as many values as samples, the ends held
abbrev pub Run : List ℕ → List ℕ → List ℕ → List ℕ → Result ℕ Refusal → Type 0
Run r s = Gives (recipe_run_checked r s) (length s) (ran held r s)
