-- A term over every set of w positions, as a shift tells it.
-- Assumes nothing.
use Prim.Native.Nat.{ℕ, ◌/◌, ◌^◌, ◌≤◌, ◌<◌}
use native.Mathlib.Nat.{div-eq_of_lt, le-div_iff_mul-le}
use native.Mathlib.Omega.{arith}
use mathlib.Core.Path.{◌≡◌, sym, ◌∙◌}
use mathlib.Core.Bool.{false}
use mathlib.Core.Logic.{◌⊎◌, inl, inr}
use lib.Dec.{leb, ltb}
use lib.Pow.{pow_pos, pow_mono}
use borrow.Author.Tests.{lt-ltb, le-leb, lt-leb}
use Rattle.theory.proofs.Differences.{side}

-- something is left after the shift
pub over_shift : (w v : ℕ) → ltb 0 (v / 2 ^ w) ≡ leb (2 ^ w) v
over_shift w v = go (side v (2 ^ w))
  where
    go : (v < 2 ^ w) ⊎ (2 ^ w ≤ v) → ltb 0 (v / 2 ^ w) ≡ leb (2 ^ w) v
    go (inl h) = rw (div-eq_of_lt h, lt-leb (2 ^ w) v h)
    go (inr h) =
        let some_left : 1 ≤ v / 2 ^ w = (le-div_iff_mul-le (pow_pos w)).1 (omega arith) in
        lt-ltb 0 (v / 2 ^ w) some_left ∙ sym (le-leb (2 ^ w) v h)

-- a number of b bits is not over as many positions or more
pub over_none : (b w v : ℕ) → v < 2 ^ b → b ≤ w → leb (2 ^ w) v ≡ false
over_none b w v h l = lt-leb (2 ^ w) v (omega (arith, pow_mono l))
