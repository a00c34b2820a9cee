-- The least and the greatest of some offsets: of the mirrored ones, by the one that is, and by the columns of a set's positions.
-- Assumes nothing.
use mathlib.Core.Path.{◌≡◌, refl, sym, ap, ap₂, ◌∙◌}
use mathlib.Core.Bool.{true, false}
use mathlib.Core.Logic.{◌⊎◌, inl, inr}
use mathlib.Core.List.{List, [], ◌∷◌, map, Memᴰ}
use Prim.Native.Nat.{ℕ, ◌≤◌, ◌<◌}
use native.Mathlib.Omega.{arith}
use lib.IntN.{ℤ, pos, neg_ℤ, sub_ℕ, neg_ℤ-neg_ℤ}
use lib.Signed.{le_z}
use Rattle.theory.specs.Sets.{has, positions}
use Rattle.theory.specs.Orders.{smaller, largest, smallest}
use Rattle.theory.specs.Ranks.{the_smallest, pick}
use Rattle.theory.specs.Signals.{Window, wide, offset, offsets, leftmost, rightmost}
use Rattle.theory.proofs.Tests.{not_both}
use Rattle.theory.proofs.Sets.{positions-at, positions_mem}
use Rattle.theory.proofs.Orders.{ints_lawful, smallest_is}
use Rattle.theory.proofs.Ints.{ints_strict, neg_down, neg_larger}
use Rattle.theory.proofs.Differences.{side, sub-le}
use Rattle.theory.proofs.Ranks.{pick_map}
use Rattle.theory.proofs.Signals.{Fair}

-- the least of the mirrored offsets is the greatest, mirrored
pub leftmost_neg : (bs : List ℤ) → leftmost (map neg_ℤ bs) ≡ neg_ℤ (rightmost bs)
unfolding leftmost rightmost smallest largest
leftmost_neg [] = refl
leftmost_neg (b ∷ []) = refl
leftmost_neg (b ∷ c ∷ bs) = ap (smaller le_z (neg_ℤ b)) (leftmost_neg (c ∷ bs)) ∙ sym (neg_larger b (rightmost (c ∷ bs)))

neg_neg : (bs : List ℤ) → map neg_ℤ (map neg_ℤ bs) ≡ bs
neg_neg [] = refl
neg_neg (b ∷ bs) = ap₂ (λ (z : ℤ) (l : List ℤ). z ∷ l) (neg_ℤ-neg_ℤ b) (neg_neg bs)

-- and the other way round
pub rightmost_neg : (bs : List ℤ) → rightmost (map neg_ℤ bs) ≡ neg_ℤ (leftmost bs)
rightmost_neg bs = sym (neg_ℤ-neg_ℤ _) ∙ ap neg_ℤ (sym (leftmost_neg (map neg_ℤ bs)) ∙ ap leftmost (neg_neg bs))

-- ---- of mapped offsets, the one that is

module _ {X : Type 0} (f : X → ℤ) {x : X} (xs : List X) (m : Memᴰ x xs) where
  pub leftmost_is : ((y : X) → Memᴰ y xs → le_z (f x) (f y) ≡ true) → leftmost (map f xs) ≡ f x
  unfolding leftmost pick
  leftmost_is h = pick_map le_z f the_smallest (pos 0) (λ z. z) xs ∙ smallest_is ints_lawful ints_strict (pos 0) f xs m h

  pub rightmost_is : ((y : X) → Memᴰ y xs → le_z (f y) (f x) ≡ true) → rightmost (map f xs) ≡ f x
  unfolding leftmost pick
  rightmost_is h =
      sym (neg_ℤ-neg_ℤ _)
      ∙ ap neg_ℤ (sym (leftmost_neg (map f xs))
      ∙ pick_map le_z neg_ℤ the_smallest (pos 0) (λ z. z) (map f xs)
      ∙ pick_map le_z f the_smallest (pos 0) neg_ℤ xs
      ∙ smallest_is ints_lawful ints_strict (pos 0) (λ z. neg_ℤ (f z)) xs m (λ y k. neg_down (f y) (f x) (h y k)))
      ∙ neg_ℤ-neg_ℤ (f x)

-- ---- the offsets of a set, by the position in the least column and by the one in the greatest

module _ (W : Window) (B i : ℕ) (m : Memᴰ i (positions (wide W) B)) where
  pub leftmost-offsets : ((j : ℕ) → Memᴰ j (positions (wide W) B) → W.column i ≤ W.column j) → leftmost (offsets W B) ≡ offset W i
  unfolding offsets offset
  leftmost-offsets h =
      leftmost_is (offset W) (positions (wide W) B) m (λ j k. sub-le (W.column i) W.far (W.column j) W.far (omega (arith, h j k)))

  pub rightmost-offsets : ((j : ℕ) → Memᴰ j (positions (wide W) B) → W.column j ≤ W.column i) → rightmost (offsets W B) ≡ offset W i
  unfolding offsets offset
  rightmost-offsets h =
      rightmost_is (offset W) (positions (wide W) B) m (λ j k. sub-le (W.column j) W.far (W.column i) W.far (omega (arith, h j k)))

-- the same, as a search over the columns finds it

module _ (W : Window) (fair : Fair W) (B k : ℕ) (l : k < wide W) (h : has B (fair.position k) ≡ true) where
  position_in : Memᴰ (fair.position k) (positions (wide W) B)
  position_in = positions_mem (wide W) B (fair.position_lt k l) h

  -- a position of the set is not in a column where the set has none
  elsewhere : {j : ℕ} → Memᴰ j (positions (wide W) B) → has B (fair.position (W.column j)) ≡ false → ⊥
  elsewhere {j} m e = let q = positions-at (wide W) B m in not_both (rw (fair.position_column j q.0) q.1) e

  its_offset : offset W (fair.position k) ≡ sub_ℕ k W.far
  unfolding offset
  its_offset = ap (λ (c : ℕ). sub_ℕ c W.far) (fair.column_position k l)

  pub leftmost_column : ((j : ℕ) → j < k → has B (fair.position j) ≡ false) → leftmost (offsets W B) ≡ sub_ℕ k W.far
  leftmost_column f =
      leftmost-offsets W B (fair.position k) position_in (λ j m. rw (fair.column_position k l) (at j m (side (W.column j) k)))
      ∙ its_offset
    where
      at : (j : ℕ) → Memᴰ j (positions (wide W) B) → (W.column j < k) ⊎ (k ≤ W.column j) → k ≤ W.column j
      at j m (inl c) = absurd (elsewhere m (f (W.column j) c))
      at j m (inr c) = c

  pub rightmost_column : ((j : ℕ) → k < j → j < wide W → has B (fair.position j) ≡ false) → rightmost (offsets W B) ≡ sub_ℕ k W.far
  rightmost_column f =
      rightmost-offsets W B (fair.position k) position_in (λ j m. rw (fair.column_position k l) (at j m (side k (W.column j))))
      ∙ its_offset
    where
      at : (j : ℕ) → Memᴰ j (positions (wide W) B) → (k < W.column j) ⊎ (W.column j ≤ k) → W.column j ≤ k
      at j m (inl c) = absurd (elsewhere m (f (W.column j) c (fair.column_lt j (positions-at (wide W) B m).0)))
      at j m (inr c) = c
