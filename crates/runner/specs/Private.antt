-- Only private contracts cite this: the rows in a list, and a recipe on a scan and on a piece of it.
use Rattle.std.specs.Prelude.{◌≡◌, List, [], ◌∷◌, ◌++◌, ℕ, zero, suc, ◌+◌, ◌-◌, ◌*◌, ◌≤◌, ◌<◌, ℤ, pos, length, take, drop}
use Rattle.std.proofs.Math.IntN.{sub_ℕ}
use Rattle.limits.specs.Limits.{reach, most_signals}
use Rattle.theory.specs.Lists.{tab}
use Rattle.theory.specs.Orders.{counts}
use Rattle.theory.specs.Signals.{between}
use Rattle.recipes.specs.Machine.{signals}
use Rattle.recipes.specs.Meaning.{made}
use Rattle.rows.specs.Sizes.{longest_row}
use Rattle.rows.specs.Private.{margin}

-- ---- the stack of rows

-- the h rows of m values from a list's start on, the last one first
unfoldable pub rows_in : ℕ → ℕ → List ℕ → List (List ℕ)
rows_in m zero l = []
rows_in m (suc h) l = take m (drop (h * m) l) ∷ rows_in m h l

-- the stack has room for a row to each signal
abbrev pub stack_size : ℕ
stack_size = most_signals * longest_row

-- a list that holds h rows of m values
pub record Holds (m : ℕ) (values : List ℕ) (h : ℕ) : Type 0 where
  pub short : m ≤ longest_row
  pub deep : length values ≡ stack_size
  pub few : h ≤ most_signals

-- ---- a recipe on a scan, with l left of it and r right of it, and a piece of that

module _ (l r : ℕ) (recipe s : List ℕ) where
  -- the signal that the recipe's steps leave
  unfoldable pub made_between : ℤ → ℕ
  made_between = made (signals counts (between l r s)) recipe

  -- its row
  unfoldable pub row_between : List ℕ
  row_between = tab (length s + margin) (λ j. made_between (sub_ℕ j reach))

  -- its values at the samples
  unfoldable pub values_between : List ℕ
  values_between = tab (length s) (λ x. made_between (pos x))

  -- the samples from at to next have their values, and the others are as they were
  pub record PieceRun (at : ℕ) (old new : List ℕ) (next : ℕ) : Type 0 where
    pub more : at < next
    pub short : next ≤ length s
    pub out : new ≡ take at old ++ (tab (next - at) (λ j. made_between (pos (at + j))) ++ drop next old)
