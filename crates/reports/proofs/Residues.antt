-- The difference of two counts as a residue: when it is a change, its sign, and how far it lies above or below 0.
-- Assumes nothing.
use mathlib.Core.Path.{◌≡◌, refl, sym, ap}
use mathlib.Core.Bool.{Bool, true, false, not, cond}
use mathlib.Core.Logic.{◌⊎◌, inl, inr}
use Prim.Native.Nat.{ℕ, suc, ◌-◌, ◌≤◌, ◌<◌}
use native.Mathlib.Omega.{arith}
use lib.Dec.{eqb}
use lib.IntN.{ℤ, pos, ◌-ℤ◌}
use lib.Signed.{non_neg, mag}
use borrow.Author.Tests.{lt-ltb}
use Rattle.theory.proofs.Differences.{side, minus_high, minus_low}
use Rattle.std.specs.Int.{from_bool, int_signum, int_max, int_min}
use Rattle.std.proofs.Common.{of_z, to_z, to_z-of_z, w64, ◌^◌, negsuc, zero, min, unsigned_abs}
use Rattle.theory.specs.Lists.{bit}
use Rattle.reports.specs.Counts.{is_change, kind_of, above, below}

pub above_difference : (a b : ℕ) → above (pos a -ℤ pos b) ≡ a - b
above_difference a b = go (side a b)
  where
    go : (a < b) ⊎ (b ≤ a) → above (pos a -ℤ pos b) ≡ a - b
    go (inl l) = rw (minus_low a b l) (omega arith)
    go (inr l) = rw (minus_high a b l)

pub below_difference : (a b : ℕ) → below (pos a -ℤ pos b) ≡ b - a
below_difference a b = go (side a b)
  where
    go : (a < b) ⊎ (b ≤ a) → below (pos a -ℤ pos b) ≡ b - a
    go (inl l) = rw (minus_low a b l) (omega arith)
    go (inr l) = rw (minus_high a b l) (omega arith)

-- ---- the sign, as a number

-- what fits an i64 is read back
pub read : (z : ℤ) → mag z < 2 ^ 63 → to_z w64 (of_z w64 z) ≡ z
read z h = to_z-of_z {w = w64} {z = z} (record { sfits = h })

-- it is 0, 1 or -1
signs : (s : ℤ) → int_signum s ≡ s → (s ≡ pos 0) ⊎ ((s ≡ pos 1) ⊎ (s ≡ negsuc 0))
signs (pos zero) e = inl refl
signs (pos (suc zero)) e = inr (inl refl)
signs (pos (suc (suc n))) e = let one : min (suc (suc n)) 1 ≡ suc (suc n) = ap unsigned_abs e in absurd (omega (arith, one))
signs (negsuc n) e = inr (inr (sym e))

pub sign_kind : (r : ℤ) → kind_of (int_signum r) ≡ kind_of r
unfolding kind_of is_change
sign_kind (pos zero) = refl
sign_kind (pos (suc n)) = let one : min (suc n) 1 ≡ 1 = omega arith in rw one (sym (ap (λ (b : Bool). cond b 1 0) (lt-ltb 0 (suc n) (omega arith))))
sign_kind (negsuc n) = sym (ap (λ (b : Bool). cond b 2 0) (lt-ltb 0 (suc n) (omega arith)))

pub sign_sign : (r : ℤ) → int_signum (int_signum r) ≡ int_signum r
sign_sign (pos n) = let one : min (min n 1) 1 ≡ min n 1 = omega arith in ap pos one
sign_sign (negsuc n) = refl

-- two signs are one where their kinds are
pub signs_kinds : (s p : ℤ) → int_signum s ≡ s → int_signum p ≡ p → eqb (of_z w64 s) (of_z w64 p) ≡ eqb (kind_of s) (kind_of p)
unfolding kind_of is_change
signs_kinds s p d e = go (signs s d) (signs p e)
  where
    go : (s ≡ pos 0) ⊎ ((s ≡ pos 1) ⊎ (s ≡ negsuc 0)) → (p ≡ pos 0) ⊎ ((p ≡ pos 1) ⊎ (p ≡ negsuc 0))
        → eqb (of_z w64 s) (of_z w64 p) ≡ eqb (kind_of s) (kind_of p)
    go (inl s) (inl p) = rw (s, p)
    go (inl s) (inr (inl p)) = rw (s, p)
    go (inl s) (inr (inr p)) = rw (s, p)
    go (inr (inl s)) (inl p) = rw (s, p)
    go (inr (inl s)) (inr (inl p)) = rw (s, p)
    go (inr (inl s)) (inr (inr p)) = rw (s, p)
    go (inr (inr s)) (inl p) = rw (s, p)
    go (inr (inr s)) (inr (inl p)) = rw (s, p)
    go (inr (inr s)) (inr (inr p)) = rw (s, p)

pub sign_none : (s : ℤ) → int_signum s ≡ s → eqb (of_z w64 s) 0 ≡ eqb (kind_of s) 0
unfolding kind_of is_change
sign_none s e = signs_kinds s (pos 0) e refl

-- a residue is a change where it is of a kind
pub change_kind : (r : ℤ) → is_change r ≡ not (eqb (kind_of r) 0)
unfolding kind_of
change_kind r = go (is_change r) (non_neg r)
  where
    go : (b s : Bool) → b ≡ not (eqb (cond b (cond s 1 2) 0) 0)
    go false s = refl
    go true true = refl
    go true false = refl

pub byte_bit : (b : Bool) → from_bool b ≡ bit b
unfolding bit
byte_bit true = refl
byte_bit false = refl

pub above_max : (r : ℤ) → unsigned_abs (int_max r (pos 0)) ≡ above r
above_max (pos zero) = refl
above_max (pos (suc n)) = ap (λ (b : Bool). unsigned_abs (cond b (pos (suc n)) (pos 0))) (lt-ltb 0 (suc n) (omega arith))
above_max (negsuc n) = refl

pub below_min : (r : ℤ) → unsigned_abs (int_min r (pos 0)) ≡ below r
below_min (pos zero) = refl
below_min (pos (suc n)) = ap (λ (b : Bool). unsigned_abs (cond b (pos 0) (pos (suc n)))) (lt-ltb 0 (suc n) (omega arith))
below_min (negsuc n) = refl
