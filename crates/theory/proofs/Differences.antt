-- Differences of counts as integers: a - x. Sums, negatives, order and equality of them are facts about counts.
-- Assumes nothing.
use mathlib.Core.Path.{◌≡◌, refl, sym, ap, ap₂, ◌∙◌, subst}
use mathlib.Core.Bool.{true, false}
use mathlib.Core.Logic.{◌⊎◌, inl, inr, ◌↔◌}
use Prim.Native.Nat.{ℕ, zero, suc, ◌+◌, ◌-◌, ◌≤◌, ◌<◌, zero-le}
use native.Mathlib.Omega.{arith}
use lib.Dec.{ltb}
use lib.IntN.{ℤ, pos, negsuc, neg_ℤ, sub_ℕ, ◌+ℤ◌, ◌-ℤ◌, +ℤ_comm}
use lib.Signed.{le_z}
use borrow.Author.Tests.{le-leb, lt-ltb, le-ltb, ltb-true, ltb-false}
use Rattle.theory.proofs.Tests.{which}
use Rattle.theory.proofs.Ints.{up}

-- the two sides of a difference: below 0, and not
pub sub_low : (i c : ℕ) → i < c → sub_ℕ i c ≡ negsuc (c - suc i)
sub_low i c h = rw (lt-ltb i c h)

pub sub_high : (i c : ℕ) → c ≤ i → sub_ℕ i c ≡ pos (i - c)
sub_high i c h = rw (le-ltb i c h)

-- the side on which it lies
pub side : (i c : ℕ) → (i < c) ⊎ (c ≤ i)
side i c = go (which (ltb i c))
  where
    go : (ltb i c ≡ true) ⊎ (ltb i c ≡ false) → (i < c) ⊎ (c ≤ i)
    go (inl e) = inl (ltb-true i c e)
    go (inr e) = inr (ltb-false i c e)

-- a - x is b - y
pub sub_same : (a x b y : ℕ) → a + y ≡ b + x → sub_ℕ a x ≡ sub_ℕ b y
sub_same a x b y e = go (side a x) (side b y)
  where
    go : (a < x) ⊎ (x ≤ a) → (b < y) ⊎ (y ≤ b) → sub_ℕ a x ≡ sub_ℕ b y
    go (inl p) (inl q) = sub_low a x p ∙ ap negsuc (omega arith) ∙ sym (sub_low b y q)
    go (inl p) (inr q) = absurd (omega arith)
    go (inr p) (inl q) = absurd (omega arith)
    go (inr p) (inr q) = sub_high a x p ∙ ap pos (omega arith) ∙ sym (sub_high b y q)

-- a and b are as far from x
pub sub_cancel : (a b x : ℕ) → sub_ℕ a x ≡ sub_ℕ b x → a ≡ b
sub_cancel a b x e = go (side a x) (side b x)
  where
    go : (a < x) ⊎ (x ≤ a) → (b < x) ⊎ (x ≤ b) → a ≡ b
    go (inl p) (inl q) = let z : x - suc a ≡ x - suc b = cc (e, sub_low a x p, sub_low b x q) in omega arith
    go (inl p) (inr q) = let z : ◌≡◌ {A = ℕ} 0 1 = cc (e, sub_low a x p, sub_high b x q) in omega arith
    go (inr p) (inl q) = let z : ◌≡◌ {A = ℕ} 0 1 = cc (e, sub_high a x p, sub_low b x q) in omega arith
    go (inr p) (inr q) = let z : a - x ≡ b - x = cc (e, sub_high a x p, sub_high b x q) in omega arith

-- (a - x) + (b - y) is (a + b) - (x + y)
pub sub_add : (a x b y : ℕ) → sub_ℕ a x +ℤ sub_ℕ b y ≡ sub_ℕ (a + b) (x + y)
sub_add a x b y = go (side a x) (side b y)
  where
    go : (a < x) ⊎ (x ≤ a) → (b < y) ⊎ (y ≤ b) → sub_ℕ a x +ℤ sub_ℕ b y ≡ sub_ℕ (a + b) (x + y)
    go (inl p) (inl q) = ap₂ ◌+ℤ◌ (sub_low a x p) (sub_low b y q) ∙ ap negsuc (omega arith) ∙ sym (sub_low (a + b) (x + y) (omega arith))
    go (inl p) (inr q) = ap₂ ◌+ℤ◌ (sub_low a x p) (sub_high b y q) ∙ sub_same (b - y) (suc (x - suc a)) (a + b) (x + y) (omega arith)
    go (inr p) (inl q) = ap₂ ◌+ℤ◌ (sub_high a x p) (sub_low b y q) ∙ sub_same (a - x) (suc (y - suc b)) (a + b) (x + y) (omega arith)
    go (inr p) (inr q) = ap₂ ◌+ℤ◌ (sub_high a x p) (sub_high b y q) ∙ ap pos (omega arith) ∙ sym (sub_high (a + b) (x + y) (omega arith))

-- x + (a - r) is (x + a) - r
pub pos_add : (x a r : ℕ) → pos x +ℤ sub_ℕ a r ≡ sub_ℕ (x + a) r
pos_add x a r =
    ap (λ (z : ℤ). z +ℤ sub_ℕ a r) (ap pos (omega arith) ∙ sym (sub_high x 0 zero-le))
    ∙ sub_add x 0 a r
    ∙ sub_same (x + a) (0 + r) (x + a) r (omega arith)

-- -(a - x) is x - a
pub sub_neg : (a x : ℕ) → neg_ℤ (sub_ℕ a x) ≡ sub_ℕ x a
sub_neg a x = go (side a x)
  where
    back : (n : ℕ) → neg_ℤ (pos n) ≡ sub_ℕ 0 n
    back zero = refl
    back (suc n) = ap negsuc (omega arith) ∙ sym (sub_low 0 (suc n) (omega arith))

    go : (a < x) ⊎ (x ≤ a) → neg_ℤ (sub_ℕ a x) ≡ sub_ℕ x a
    go (inl p) = ap neg_ℤ (sub_low a x p) ∙ ap pos (omega arith) ∙ sym (sub_high x a (omega arith))
    go (inr p) = ap neg_ℤ (sub_high a x p) ∙ back (a - x) ∙ sub_same 0 (a - x) x a (omega arith)

-- a - x is at most b - y
pub sub-le : (a x b y : ℕ) → a + y ≤ b + x → le_z (sub_ℕ a x) (sub_ℕ b y) ≡ true
sub-le a x b y h =
    let n = b + x - (a + y) in
    subst (λ (z : ℤ). le_z (sub_ℕ a x) z ≡ true)
    (+ℤ_comm (sub_ℕ a x) (pos n) ∙ pos_add n a x ∙ sub_same (n + a) x b y (omega arith))
    (up (sub_ℕ a x) n)

-- ---- written with a minus

-- it is the two's distance, on the side of the larger
pub minus_high : (a b : ℕ) → b ≤ a → pos a -ℤ pos b ≡ pos (a - b)
minus_high a zero h = ap pos (omega arith)
minus_high a (suc b) h = sub_high a (suc b) h

pub minus_low : (a b : ℕ) → a < b → pos a -ℤ pos b ≡ negsuc (b - suc a)
minus_low a zero h = absurd (omega arith)
minus_low a (suc b) h = sub_low a (suc b) h

pub minus_zero : (a b : ℕ) → (pos a -ℤ pos b ≡ pos 0) ↔ (a ≡ b)
minus_zero a b = (go (side a b), λ e. minus_high a b (omega arith) ∙ ap pos (omega arith))
  where
    go : (a < b) ⊎ (b ≤ a) → pos a -ℤ pos b ≡ pos 0 → a ≡ b
    go (inl l) e = let z : ◌≡◌ {A = ℕ} 0 1 = cc (e, minus_low a b l) in omega arith
    go (inr l) e = let z : a - b ≡ 0 = cc (e, minus_high a b l) in omega arith

module _ (top a b : ℕ) (small_a : a ≤ top) (small_b : b ≤ top) where
  pub minus_highest : (pos a -ℤ pos b ≡ pos top) ↔ ((a ≡ top) × (b ≡ 0))
  minus_highest = (go (side a b), λ e. minus_high a b (omega arith) ∙ ap pos (omega arith))
    where
      go : (a < b) ⊎ (b ≤ a) → pos a -ℤ pos b ≡ pos top → (a ≡ top) × (b ≡ 0)
      go (inl l) e = let z : ◌≡◌ {A = ℕ} 0 1 = cc (e, minus_low a b l) in absurd (omega arith)
      go (inr l) e = let z : a - b ≡ top = cc (e, minus_high a b l) in omega arith

  pub minus_within : (le_z (neg_ℤ (pos top)) (pos a -ℤ pos b) ≡ true) × (le_z (pos a -ℤ pos b) (pos top) ≡ true)
  minus_within = go (side a b)
    where
      go : (a < b) ⊎ (b ≤ a) → (le_z (neg_ℤ (pos top)) (pos a -ℤ pos b) ≡ true) × (le_z (pos a -ℤ pos b) (pos top) ≡ true)
      go (inl l) = rw (minus_low a b l) (below top (omega arith), refl)
        where
          below : (n : ℕ) → suc (b - suc a) ≤ n → le_z (neg_ℤ (pos n)) (negsuc (b - suc a)) ≡ true
          below zero h = absurd (omega arith)
          below (suc n) h = le-leb (b - suc a) n (omega arith)
      go (inr l) = rw (minus_high a b l) (above top, le-leb (a - b) top (omega arith))
        where
          above : (n : ℕ) → le_z (neg_ℤ (pos n)) (pos (a - b)) ≡ true
          above zero = le-leb 0 (a - b) zero-le
          above (suc n) = refl

pub minus_lowest : (top a b : ℕ) → a ≤ suc top → b ≤ suc top → (pos a -ℤ pos b ≡ negsuc top) ↔ ((a ≡ 0) × (b ≡ suc top))
minus_lowest top a b h k = (go (side a b), λ e. minus_low a b (omega arith) ∙ ap negsuc (omega arith))
  where
    go : (a < b) ⊎ (b ≤ a) → pos a -ℤ pos b ≡ negsuc top → (a ≡ 0) × (b ≡ suc top)
    go (inl l) e = let z : b - suc a ≡ top = cc (e, minus_low a b l) in omega arith
    go (inr l) e = let z : ◌≡◌ {A = ℕ} 0 1 = cc (e, minus_high a b l) in absurd (omega arith)
