-- The window that a run carries, of any width, along any endless signal, whatever its ends: the step to the next sample, where it begins, and
-- what stands in its middle.
-- Assumes nothing.
use mathlib.Core.Path.{◌≡◌, sym, ap, ◌∙◌}
use mathlib.Core.List.{List}
use mathlib.Core.Logic.{◌⊎◌, inl, inr}
use Prim.Native.Nat.{ℕ, suc, ◌+◌, ◌-◌, ◌≤◌, ◌<◌}
use native.Mathlib.Omega.{arith}
use borrow.Author.Tests.{ne_eqb}
use lib.Dec.{eqb}
use lib.IntN.{ℤ, pos, sub_ℕ, ◌+ℤ◌, +ℤ_assoc}
use lib.ListN.{get_or}
use Rattle.theory.specs.Lists.{first, tab}
use Rattle.theory.specs.Signals.{Window, between, wide, offset, seen}
use Rattle.theory.proofs.Lists.{get_or_beyond, length-tab, get_or-tab, tab_cong, first_none}
use Rattle.theory.proofs.Differences.{side, sub_high, sub_add, pos_add}
use Rattle.theory.proofs.Signals.{Fair, between_left, seen_at}
use Rattle.windows.proofs.Columns.{position_found}
use Rattle.scans.specs.Private.{carried, moved_on}

module _ (W : Window) (fair : Fair W) {A : Type 0} (g : ℤ → A) where
  -- one sample further on, a position sees what stands a column to its right from here
  seen_next : (x : ℤ) (i : ℕ) → seen W g (x +ℤ pos 1) i ≡ g (x +ℤ sub_ℕ (W.column i + 1) W.far)
  unfolding seen offset
  seen_next x i =
      let k = W.column i in
      let e : 1 + k ≡ k + 1 = omega arith in
      ap g (+ℤ_assoc x (pos 1) (sub_ℕ k W.far) ∙ ap (λ (d : ℤ). x +ℤ d) (pos_add 1 k W.far ∙ ap (λ (n : ℕ). sub_ℕ n W.far) e))

  -- the step from x to x + 1: what the window carries there is what it carries here, moved on, with the value that comes in sight
  pub carried-next : (x : ℤ) → moved_on W (carried W g x) (g (x +ℤ pos (suc W.far))) ≡ carried W g (x +ℤ pos 1)
  unfolding moved_on carried seen offset wide
  carried-next x = tab_cong (wide W) _ _ (λ i b. go i b (side (W.column i + 1) (wide W)))
    where
      arriving : A
      arriving = g (x +ℤ pos (suc W.far))

      found : ℕ → ℕ
      found k = first (λ j. eqb (W.column j) k) (wide W)

      go : (i : ℕ) → i < wide W → (W.column i + 1 < wide W) ⊎ (wide W ≤ W.column i + 1)
          → get_or (tab (wide W) (seen W g x)) (found (W.column i + 1)) arriving ≡ seen W g (x +ℤ pos 1) i
      -- what stays in sight
      go i b (inl h) =
          let k = W.column i + 1 in
          rw (position_found W fair k h, get_or-tab arriving (wide W) (seen W g x) (fair.position k) (fair.position_lt k h))
          (ap (λ (c : ℕ). g (x +ℤ sub_ℕ c W.far)) (fair.column_position k h) ∙ sym (seen_next x i))
      -- what comes in sight
      go i b (inr h) =
          let k = W.column i + 1 in
          let last : k ≡ wide W = omega (arith, fair.column_lt i b) in
          let none : found k ≡ wide W = first_none _ (wide W) (λ j l. ne_eqb (W.column j) k (λ e. omega (arith, fair.column_lt j l))) in
          let far : sub_ℕ k W.far ≡ pos (suc W.far) = sub_high k W.far (omega arith) ∙ ap pos (omega arith) in
          rw (none, get_or_beyond (tab (wide W) (seen W g x)) (wide W) arriving (omega (arith, length-tab (wide W) (seen W g x))))
          (ap (λ (d : ℤ). g (x +ℤ d)) (sym far) ∙ sym (seen_next x i))

  -- the middle position has what stands at x itself
  pub seen_middle : (x : ℕ) → seen W g (pos x) (fair.position W.far) ≡ g (pos x)
  unfolding wide
  seen_middle x =
      let far = W.far in
      let there : W.column (fair.position far) ≡ far = fair.column_position far (omega arith) in
      let back : x + far - far ≡ x = omega arith in
      seen_at W g x (fair.position far)
      ∙ ap (λ (k : ℕ). g (sub_ℕ (x + k) far)) there
      ∙ ap g (sub_high (x + far) far (omega arith) ∙ ap pos back)

-- far enough to the left of a list it sees what stands there alone
module _ (W : Window) (fair : Fair W) {A : Type 0} (l r : A) (s : List A) where
  pub carried_left : tab (wide W) (λ i. l) ≡ carried W (between l r s) (sub_ℕ 0 (suc W.far))
  unfolding carried seen offset wide
  carried_left = tab_cong (wide W) _ _ (λ i b.
      sym (ap (between l r s) (sub_add 0 (suc W.far) (W.column i) W.far)
      ∙ between_left l r s (0 + W.column i) (suc W.far + W.far) (omega (arith, fair.column_lt i b))))
