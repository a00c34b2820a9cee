-- Only private contracts cite this: what a step makes of the stack of rows.
use Rattle.std.specs.Prelude.{◌≡◌, true, false, List, ℕ, ◌+◌, ◌/◌, ◌<◌}
use Rattle.std.proofs.Math.Option.{Option, some}
use Rattle.limits.specs.Limits.{reach, most_signals}
use Rattle.theory.specs.Signals.{window, size}
use Rattle.recipes.specs.declared.Step.{Step}
use Rattle.recipes.specs.declared.Step.TheVariants.{Signal, Erode, Dilate, Open, Close, Rank, Median, Larger, Smaller}
use Rattle.recipes.specs.Machine.{added, replaced, joined}
use Rattle.rows.specs.declared.Change.TheVariants as change
use Rattle.rows.specs.Private.{Sound}
use Rattle.rows.specs.Rows.{widened, paired}
use Rattle.rows.specs.Changes.{after_change}
use Rattle.runner.specs.declared.Stack.{Stack}
use Rattle.runner.specs.Private.{rows_in}

-- the rows of a stack, the last one first
abbrev pub rows_of : Stack → List (List ℕ)
rows_of s = rows_in s.row s.held s.values

-- the rows become what a work makes of them, and are as long as before
pub record Becomes (old new : Stack) (work : List (List ℕ) → Option (List (List ℕ))) : Type 0 where
  pub row : new.row ≡ old.row
  pub rows : some (rows_of new) ≡ work (rows_of old)

-- what a step makes of some rows, the last one first, on a scan s with l left of it and r right of it
abbrev pub performed : Step → ℕ → ℕ → List ℕ → List (List ℕ) → Option (List (List ℕ))
performed Signal l r s st = added (widened reach l r s) st
performed (Erode B) l r s st = replaced (after_change (change.Erode B) l r) st
performed (Dilate B) l r s st = replaced (after_change (change.Dilate B) l r) st
performed (Open B) l r s st = replaced (after_change (change.Open B) l r) st
performed (Close B) l r s st = replaced (after_change (change.Close B) l r) st
performed (Rank k B) l r s st = replaced (after_change (change.Rank k B) l r) st
performed (Median B) l r s st = replaced (after_change (change.Rank ((size window B + 1) / 2) B) l r) st
performed Larger l r s st = joined (λ under last. paired true last under) st
performed Smaller l r s st = joined (λ under last. paired false last under) st

-- h rows are as many as the step takes, no ninth is added, and a change is a sound one
abbrev pub Ready : Step → ℕ → Type 0
Ready Signal h = h < most_signals
Ready (Erode B) h = (0 < h) × Sound (change.Erode B)
Ready (Dilate B) h = (0 < h) × Sound (change.Dilate B)
Ready (Open B) h = (0 < h) × Sound (change.Open B)
Ready (Close B) h = (0 < h) × Sound (change.Close B)
Ready (Rank k B) h = (0 < h) × Sound (change.Rank k B)
Ready (Median B) h = (0 < h) × Sound (change.Rank ((size window B + 1) / 2) B)
Ready Larger h = 1 < h
Ready Smaller h = 1 < h
