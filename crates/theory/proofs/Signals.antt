-- Laws of signals: what stands at each index of an endless list, which windows are fair, and what a window sees.
-- Assumes nothing.
use mathlib.Core.Path.{◌≡◌, refl, sym, ap, ◌∙◌, subst}
use mathlib.Core.Bool.{true}
use mathlib.Core.List.{List}
use mathlib.Core.Logic.{◌⊎◌, inl, inr}
use Prim.Native.Nat.{ℕ, zero, suc, ◌+◌, ◌-◌, ◌≤◌, ◌<◌}
use native.Mathlib.Omega.{arith}
use lib.ListN.{length, get_or}
use lib.IntN.{ℤ, pos, negsuc, neg_ℤ, sub_ℕ}
use lib.Signed.{le_z}
use borrow.Author.Tests.{leb-true}
use Rattle.theory.specs.Signals.{Ends, held, zeros, between, endless, Window, wide, offset, seen, window}
use Rattle.theory.proofs.Tests.{not_both}
use Rattle.theory.proofs.Lists.{get_or_inside, get_or_beyond}
use Rattle.theory.proofs.Differences.{sub_low, sub_high, sub_cancel, side, pos_add}
use Rattle.theory.proofs.Plans.{Inside}

-- ---- a list between l and r

module _ {A : Type 0} (l r : A) (s : List A) where
  -- at an index: left of the list, in it, and right of it
  pub between_left : (a c : ℕ) → a < c → between l r s (sub_ℕ a c) ≡ l
  unfolding between
  between_left a c h = rw (sub_low a c h)

  pub between_inside : (z : A) (a c : ℕ) → c ≤ a → a < c + length s → between l r s (sub_ℕ a c) ≡ get_or s (a - c) z
  unfolding between
  between_inside z a c h k = rw (sub_high a c h) (get_or_inside s (a - c) r z (omega arith))

  pub between_right : (a c : ℕ) → c + length s ≤ a → between l r s (sub_ℕ a c) ≡ r
  unfolding between
  between_right a c h = rw (sub_high a c (omega arith)) (get_or_beyond s (a - c) r (omega arith))

  -- what is so of l, of r and of each element is so everywhere
  pub between_from : (P : A → Type 0) (z : A) → P l → P r → ((i : ℕ) → P (get_or s i z)) → (y : ℤ) → P (between l r s y)
  unfolding between
  between_from P z p q h (negsuc n) = p
  between_from P z p q h (pos n) = go (side n (length s))
    where
      go : (n < length s) ⊎ (length s ≤ n) → P (get_or s n r)
      go (inl k) = subst P (get_or_inside s n z r k) (h n)
      go (inr k) = subst P (sym (get_or_beyond s n r k)) q

-- ---- a list with its ends

module _ {A : Type 0} (z : A) where
  -- what an ends rule puts to the left of a list, and to its right
  abbrev pub before : Ends → List A → A
  before held s = get_or s 0 z
  before zeros s = z

  abbrev pub after : Ends → List A → A
  after held s = get_or s (length s - 1) z
  after zeros s = z

  pub endless-between : (ends : Ends) (s : List A) → endless z ends s ≡ between (before ends s) (after ends s) s
  unfolding endless
  endless-between held s = refl
  endless-between zeros s = refl

  -- inside the list each rule gives the element
  pub inner : (ends : Ends) (s : List A) (i : ℕ) → i < length s → endless z ends s (pos i) ≡ get_or s i z
  unfolding between
  inner ends s i h = rw (endless-between ends s) (get_or_inside s i (after ends s) z h)

  -- what is so of z and of each element is so everywhere, by either rule
  pub endless_from : (P : A → Type 0) (ends : Ends) (s : List A) → P z → ((i : ℕ) → P (get_or s i z)) → (y : ℤ) → P (endless z ends s y)
  unfolding endless
  endless_from P held s p h y = between_from (get_or s 0 z) (get_or s (length s - 1) z) s P z (h 0) (h (length s - 1)) h y
  endless_from P zeros s p h y = between_from z z s P z p p h y

-- ---- windows

-- each column of the window has one position
pub record Fair (W : Window) : Type 0 where
  pub position : ℕ → ℕ
  pub column_lt : (i : ℕ) → i < wide W → W.column i < wide W
  pub position_lt : (k : ℕ) → k < wide W → position k < wide W
  pub column_position : (k : ℕ) → k < wide W → W.column (position k) ≡ k
  pub position_column : (i : ℕ) → i < wide W → position (W.column i) ≡ i

unfoldable pub window_fair : Fair window
unfolding window
window_fair =
    record { position = λ k. k; column_lt = λ i l. l; position_lt = λ k l. l; column_position = λ k l. refl; position_column = λ i l. refl }

left_bound : (r n : ℕ) → le_z (neg_ℤ (pos r)) (negsuc n) ≡ true → n < r
left_bound zero n e = absurd (not_both e refl)
left_bound (suc k) n e = omega (arith, leb-true n k e)

-- each offset -r .. r is a column, less r
pub column_of : (r : ℕ) (d : ℤ) → Inside (neg_ℤ (pos r)) (pos r) d → (k : ℕ) × (k < suc (r + r)) × (sub_ℕ k r ≡ d)
column_of r (pos n) h = (n + r, omega (arith, leb-true n r h.to_hi), sub_high (n + r) r (omega arith) ∙ ap pos (omega arith))
column_of r (negsuc n) h =
    let b : n < r = left_bound r n h.from_lo in
    (r - suc n, omega arith, sub_low (r - suc n) r (omega arith) ∙ ap negsuc (omega arith))

module _ (W : Window) (fair : Fair W) where
  -- two positions have two offsets
  pub fair_once : (i j : ℕ) → i < wide W → j < wide W → offset W i ≡ offset W j → i ≡ j
  unfolding offset
  fair_once i j a b e =
      sym (fair.position_column i a) ∙ ap fair.position (sub_cancel (W.column i) (W.column j) W.far e) ∙ fair.position_column j b

  -- each offset has a position
  pub fair_cover : (d : ℤ) → Inside (neg_ℤ (pos W.far)) (pos W.far) d → (i : ℕ) × (i < wide W) × (offset W i ≡ d)
  unfolding offset wide
  fair_cover d h =
      let c = column_of W.far d h in
      (fair.position c.0, fair.position_lt c.0 c.1, ap (λ (k : ℕ). sub_ℕ k W.far) (fair.column_position c.0 c.1) ∙ c.2)

-- what a window sees at x, by the column
pub seen_at : {A : Type 0} (W : Window) (g : ℤ → A) (x i : ℕ) → seen W g (pos x) i ≡ g (sub_ℕ (x + W.column i) W.far)
unfolding seen offset
seen_at W g x i = ap g (pos_add x (W.column i) W.far)

-- seen from far, a position's index is its column
pub seen_from_far : {A : Type 0} (W : Window) (g : ℤ → A) (i : ℕ) → seen W g (pos W.far) i ≡ g (pos (W.column i))
seen_from_far W g i =
    let e : W.far + W.column i - W.far ≡ W.column i = omega arith in
    seen_at W g W.far i ∙ ap g (sub_high (W.far + W.column i) W.far (omega arith) ∙ ap pos e)
