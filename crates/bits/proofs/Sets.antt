-- Two ways to ask whether a set has a position: it has none beyond its bits, and it has one that lies in it alone.
-- Assumes nothing.
use Prim.Native.Nat.{ℕ, suc, ◌-◌, ◌*◌, ◌%◌, ◌^◌, ◌≤◌, ◌<◌}
use native.Mathlib.Nat.{div_self, one-mul}
use native.Mathlib.Omega.{arith}
use mathlib.Core.Path.{◌≡◌, sym, ap, ◌∙◌}
use mathlib.Core.Bool.{true, false, not, ◌&&◌}
use mathlib.Core.Logic.{◌⊎◌, inl, inr}
use lib.Dec.{eqb}
use lib.Pow.{pow_pos, pow-lt, shl_exact}
use borrow.Author.Tests.{eqb-true, not-false}
use Rattle.theory.specs.Sets.{has, within}
use Rattle.theory.proofs.Tests.{which, same_test}
use Rattle.theory.proofs.Sets.{has_lt, has_zero, within_has, within_by}
use Rattle.theory.proofs.Positions.{has_shift, has_less}

pub has_beyond : (w v i : ℕ) → v < 2 ^ w → w ≤ i → has v i ≡ false
has_beyond w v i h l = go (which (has v i))
  where
    go : (has v i ≡ true) ⊎ (has v i ≡ false) → has v i ≡ false
    go (inl e) = absurd (omega (arith, has_lt w v i h e))
    go (inr e) = e

-- ---- the set of one position alone

alone_has : (i : ℕ) → has (2 ^ i) i ≡ true
alone_has i = rw (has_shift (2 ^ i) i, div_self (pow_pos i))

alone_only : (i j : ℕ) → has (2 ^ i) j ≡ true → j ≡ i
alone_only i j e =
    let none : 2 ^ i - 2 ^ i ≡ 0 = omega arith in
    let left : (has (2 ^ i) j && not (eqb j i)) ≡ false =
    sym (has_less (2 ^ i) i j (alone_has i)) ∙ ap (λ (v : ℕ). has v j) none ∙ has_zero j in
    eqb-true j i (not-false (eqb j i) (rw e at left))

-- it lies within a set exactly where the set has the position
alone_within : (v i : ℕ) → within (2 ^ i) v ≡ has v i
alone_within v i =
    same_test
    (λ e. within_has (2 ^ i) v e i (alone_has i))
    (λ e. within_by (suc i) (2 ^ i) v (pow-lt (omega arith)) (λ j l h. rw (alone_only i j h) e))

-- the same as a shift of 1 makes it, in w bits
pub has_alone : (w v i : ℕ) → i < w → within (1 * 2 ^ i % 2 ^ w) v ≡ has v i
has_alone w v i h = rw (shl_exact {a = 1} 1 i w (omega arith) (omega arith), one-mul) (alone_within v i)
