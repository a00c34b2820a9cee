-- Only private contracts cite this: the window that a run carries along a scan, and what a form gives around a sample of a scan that stands
-- between two values.
use Rattle.std.specs.Prelude.{List, ℕ, ◌+◌, eqb, ℤ, pos, length, get_or}
use Rattle.limits.specs.Limits.{width, top}
use Rattle.theory.specs.Lists.{first, tab}
use Rattle.theory.specs.Orders.{counts}
use Rattle.theory.specs.Forms.{value}
use Rattle.theory.specs.Signals.{Window, wide, window, seen, between}

module _ (W : Window) {A : Type 0} where
  -- what the window carries: what it sees from x, a value to each position
  unfoldable pub carried : (ℤ → A) → ℤ → List A
  carried g x = tab (wide W) (seen W g x)

  -- one sample further on: each position has what stood a column to its right, and the last column has what arrives
  unfoldable pub moved_on : List A → A → List A
  moved_on near arriving = tab (wide W) (λ i. get_or near (first (λ j. eqb (W.column j) (W.column i + 1)) (wide W)) arriving)

module _ (l r : ℕ) where
  -- what the form gives around sample x
  unfoldable pub value_around : List ℕ → List ℕ → ℕ → ℕ
  value_around ts s x = value counts width 0 top ts (seen window (between l r s) (pos x))

  -- what a rule leaves of the two at sample x: of the raw value and of what the form gives
  abbrev pub left_around : {A : Type 0} → (ℕ → ℕ → A) → List ℕ → List ℕ → ℕ → A
  left_around make ts s x = make (get_or s x 0) (value_around ts s x)

  -- at each sample
  abbrev pub all_left : {A : Type 0} → (ℕ → ℕ → A) → List ℕ → List ℕ → List A
  all_left make ts s = tab (length s) (left_around make ts s)
