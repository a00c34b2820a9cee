-- Beyond a list a plan that fits is what stands there. So the row of its values that goes a window's reach beyond the list, between the
-- same two values, is the plan everywhere.
-- Assumes nothing.
use mathlib.Core.Path.{◌≡◌, sym, ap, ◌∙◌}
use mathlib.Core.List.{List}
use mathlib.Core.Logic.{◌⊎◌, inl, inr}
use Prim.Native.Nat.{ℕ, ◌+◌, ◌-◌, ◌≤◌, ◌<◌}
use native.Mathlib.Omega.{arith}
use lib.ListN.{length}
use lib.IntN.{ℤ, sub_ℕ, ◌+ℤ◌}
use Rattle.theory.specs.Lists.{tab}
use Rattle.theory.specs.Orders.{Order}
use Rattle.theory.specs.Signals.{Window, between}
use Rattle.theory.proofs.Lists.{length-tab, get_or-tab}
use Rattle.theory.proofs.Differences.{side, sub_same, sub_add}
use Rattle.theory.proofs.Plans.{Plan, meaning, constant_around}
use Rattle.theory.proofs.Signals.{between_left, between_inside, between_right, column_of}
use Rattle.theory.proofs.Truth.{Fits, fits_inside}

module _ {A : Type 0} (O : Order A) (W : Window) (e : Plan) (ok : Fits W e) (l r : A) (s : List A) where
  -- where a signal is v as far as the window reaches around a - c, the plan is v
  around : (v : A) (a c : ℕ) → ((k : ℕ) → k ≤ W.far + W.far → between l r s (sub_ℕ (a + k) (c + W.far)) ≡ v)
      → meaning O e (between l r s) (sub_ℕ a c) ≡ v
  around v a c h =
      constant_around O e (between l r s) (sub_ℕ a c) v
      (λ d i. let k = column_of W.far d (fits_inside W e ok d i) in
      ap (λ (z : ℤ). between l r s (sub_ℕ a c +ℤ z)) (sym k.2)
      ∙ ap (between l r s) (sub_add a c k.0 W.far)
      ∙ h k.0 (omega (arith, k.1)))

  pub left_of : (a c : ℕ) → a + W.far < c → meaning O e (between l r s) (sub_ℕ a c) ≡ l
  left_of a c h = around l a c (λ k b. between_left l r s (a + k) (c + W.far) (omega arith))

  pub right_of : (a c : ℕ) → c + length s + W.far ≤ a → meaning O e (between l r s) (sub_ℕ a c) ≡ r
  right_of a c h = around r a c (λ k b. between_right l r s (a + k) (c + W.far) (omega arith))

  -- the plan's row of n values, the first of them at -far
  pub whole_row : (n : ℕ) → n ≡ length s + W.far + W.far → (a c : ℕ)
      → between l r (tab n (λ j. meaning O e (between l r s) (sub_ℕ j W.far))) (sub_ℕ (a + W.far) c)
      ≡ meaning O e (between l r s) (sub_ℕ a c)
  whole_row n q a c = go (side (a + W.far) c) (side (a + W.far) (c + n))
    where
      f : ℕ → A
      f j = meaning O e (between l r s) (sub_ℕ j W.far)

      go : (a + W.far < c) ⊎ (c ≤ a + W.far) → (a + W.far < c + n) ⊎ (c + n ≤ a + W.far)
          → between l r (tab n f) (sub_ℕ (a + W.far) c) ≡ meaning O e (between l r s) (sub_ℕ a c)
      go (inl h) k = between_left l r (tab n f) (a + W.far) c h ∙ sym (left_of a c h)
      go (inr h) (inl k) =
          between_inside l r (tab n f) l (a + W.far) c h (rw (length-tab n f) k)
          ∙ get_or-tab l n f (a + W.far - c) (omega arith)
          ∙ ap (meaning O e (between l r s)) (sub_same (a + W.far - c) W.far a c (omega arith))
      go (inr h) (inr k) = between_right l r (tab n f) (a + W.far) c (rw (length-tab n f) k) ∙ sym (right_of a c (omega arith))
