-- Sums and differences of modest signed numbers: they fit, and what the machine reads back is the sum or the difference itself.
-- Assumes nothing.
use mathlib.Core.Path.{◌≡◌, ap, ap₂, ◌∙◌}
use mathlib.Core.Bool.{Bool, true, false, cond}
use Prim.Native.Nat.{ℕ, zero, suc, ◌+◌, ◌-◌, ◌^◌, ◌≤◌, ◌<◌}
use native.Mathlib.Omega.{arith}
use lib.Dec.{ltb}
use lib.IntN.{ℤ, pos, negsuc, neg_ℤ, sub_ℕ, ◌+ℤ◌, ◌-ℤ◌, +ℤ_idl}
use lib.Signed.{mag}
use mir.Syntax.{w32}
use mir.Val.{SFits, to_z, of_z}
use mir.Facts.{to_z-of_z}

-- a difference of numbers that are at most n apart
pub mag_apart : (a b n : ℕ) → a ≤ b + n → b ≤ a + n → mag (sub_ℕ a b) ≤ n
mag_apart a b n h k = go (ltb a b)
  where
    go : (t : Bool) → mag (cond t (negsuc (b - suc a)) (pos (a - b))) ≤ n
    go true = omega arith
    go false = omega arith

mag_sub : (a b : ℕ) → mag (sub_ℕ a b) ≤ a + b
mag_sub a b = mag_apart a b (a + b) (omega arith) (omega arith)

mag_add : (y z : ℤ) → mag (y +ℤ z) ≤ mag y + mag z + 1
mag_add (pos a) (pos b) = omega arith
mag_add (pos a) (negsuc b) = omega (arith, mag_sub a (suc b))
mag_add (negsuc a) (pos b) = omega (arith, mag_sub b (suc a))
mag_add (negsuc a) (negsuc b) = omega arith

pub mag_neg : (z : ℤ) → mag (neg_ℤ z) ≤ mag z + 1
mag_neg (pos zero) = omega arith
mag_neg (pos (suc n)) = omega arith
mag_neg (negsuc n) = omega arith

pub mag_diff : (y z : ℤ) → mag (y -ℤ z) ≤ mag y + mag z + 2
mag_diff y z = omega (arith, mag_add y (neg_ℤ z), mag_neg z)

-- a signed number of 32 bits lies below this, either way
abbrev pub signed_bound : ℕ
signed_bound = 2 ^ 31

-- the sum and the difference of two numbers up to this fit
abbrev pub modest : ℕ
modest = 1000000000

pub fits : (z : ℤ) → mag z < signed_bound → SFits w32 z
fits z h = record { sfits = h }

-- what fits is read back
pub read_back : (z : ℤ) → mag z < signed_bound → to_z w32 (of_z w32 z) ≡ z
read_back z h = to_z-of_z (fits z h)

pub read_as : (z : ℤ) {v : ℤ} → mag z < signed_bound → z ≡ v → to_z w32 (of_z w32 z) ≡ v
read_as z h e = read_back z h ∙ e

-- so is the opposite
pub neg_fits : (z : ℤ) → mag z ≤ modest → SFits w32 (pos 0 -ℤ to_z w32 (of_z w32 z))
neg_fits z h = rw (read_back z (omega arith)) (fits (pos 0 -ℤ z) (omega (arith, mag_diff (pos 0) z)))

pub neg_read : (z : ℤ) → mag z ≤ modest → to_z w32 (of_z w32 (pos 0 -ℤ to_z w32 (of_z w32 z))) ≡ neg_ℤ z
neg_read z h = to_z-of_z (neg_fits z h) ∙ +ℤ_idl _ ∙ ap neg_ℤ (read_back z (omega arith))

module _ (y z : ℤ) (hy : mag y ≤ modest) (hz : mag z ≤ modest) where
  back : (f : ℤ → ℤ → ℤ) → f (to_z w32 (of_z w32 y)) (to_z w32 (of_z w32 z)) ≡ f y z
  back f = ap₂ f (to_z-of_z (fits y (omega arith))) (to_z-of_z (fits z (omega arith)))

  pub sum_fits : SFits w32 (to_z w32 (of_z w32 y) +ℤ to_z w32 (of_z w32 z))
  sum_fits = rw (back ◌+ℤ◌) (fits (y +ℤ z) (omega (arith, mag_add y z)))

  pub sum_read : to_z w32 (of_z w32 (to_z w32 (of_z w32 y) +ℤ to_z w32 (of_z w32 z))) ≡ y +ℤ z
  sum_read = to_z-of_z sum_fits ∙ back ◌+ℤ◌

  pub diff_fits : SFits w32 (to_z w32 (of_z w32 y) -ℤ to_z w32 (of_z w32 z))
  diff_fits = rw (back ◌-ℤ◌) (fits (y -ℤ z) (omega (arith, mag_diff y z)))

  pub diff_read : to_z w32 (of_z w32 (to_z w32 (of_z w32 y) -ℤ to_z w32 (of_z w32 z))) ≡ y -ℤ z
  diff_read = to_z-of_z diff_fits ∙ back ◌-ℤ◌

-- the difference of two counts
pub minus_fits : (a b : ℕ) → a ≤ modest → b ≤ modest → SFits w32 (pos a -ℤ pos b)
minus_fits a b h k = fits (pos a -ℤ pos b) (omega (arith, mag_diff (pos a) (pos b)))
