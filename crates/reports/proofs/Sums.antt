-- Sums: equal where their summands are, one summand more, a single 1, and where the first that passes stands.
-- Assumes nothing.
use mathlib.Core.Path.{◌≡◌, refl, ap, ap₂, ◌∙◌}
use mathlib.Core.Bool.{Bool, true, false}
use mathlib.Core.Logic.{◌⊎◌, inl, inr}
use Prim.Native.Nat.{ℕ, zero, suc, ◌+◌, ◌≤◌, ◌<◌, suc-le-suc, zero-le}
use native.Mathlib.Nat.{le_of_suc-le-suc, not-suc-le-zero}
use native.Mathlib.Numerals.{add-one}
use native.Mathlib.Omega.{arith}
use lib.Dec.{eqb}
use borrow.Author.Tests.{ne_eqb, eqb-true, eqb-false}
use Rattle.theory.specs.Lists.{first, bit, sum}
use Rattle.theory.proofs.Tests.{which}

pub sum_none : (f : ℕ → ℕ) → sum 0 f ≡ 0
unfolding sum
sum_none f = refl

pub sum_more : (f : ℕ → ℕ) (n : ℕ) → sum (n + 1) f ≡ sum n f + f n
unfolding sum
sum_more f n = rw add-one

pub sum_cong : (n : ℕ) (f g : ℕ → ℕ) → ((x : ℕ) → x < n → f x ≡ g x) → sum n f ≡ sum n g
unfolding sum
sum_cong zero f g e = refl
sum_cong (suc n) f g e = ap₂ ◌+◌ (sum_cong n f g (λ x h. e x (omega arith))) (e n (omega arith))

pub sum-zero : (n : ℕ) → sum n (λ x. 0) ≡ 0
unfolding sum
sum-zero zero = refl
sum-zero (suc n) = rw (sum-zero n)

-- of the numbers below n, c is one where it is below n
pub sum_one : (n c : ℕ) → c < n → sum n (λ x. bit (eqb x c)) ≡ 1
unfolding sum bit
sum_one zero c h = absurd (not-suc-le-zero h)
sum_one (suc n) c h = go (which (eqb n c)) (sum_one n c)
  where
    none : n ≡ c → sum n (λ x. bit (eqb x c)) ≡ 0
    none e = sum_cong n (λ x. bit (eqb x c)) (λ x. 0) (λ x l. ap bit (ne_eqb x c (λ q. omega arith))) ∙ sum-zero n

    go : (eqb n c ≡ true) ⊎ (eqb n c ≡ false) → (c < n → sum n (λ x. bit (eqb x c)) ≡ 1) → sum n (λ x. bit (eqb x c)) + bit (eqb n c) ≡ 1
    go (inl e) ih = rw e (omega (arith, none (eqb-true n c e)))
    go (inr e) ih = let ne : n ≡ c → ⊥ = eqb-false n c e in rw e (omega (arith, ih (omega arith)))

-- ---- the first that passes

pub first_le : (p : ℕ → Bool) (n : ℕ) → first p n ≤ n
unfolding first
first_le p zero = zero-le
first_le p (suc n) = go (which (p zero)) (first_le (λ j. p (suc j)) n)
  where
    go : (p zero ≡ true) ⊎ (p zero ≡ false) → first (λ j. p (suc j)) n ≤ n → first p (suc n) ≤ suc n
    go (inl e) ih = rw e zero-le
    go (inr e) ih = rw e (suc-le-suc ih)

pub first_before : (p : ℕ → Bool) (n j : ℕ) → j < first p n → p j ≡ false
unfolding first
first_before p zero j h = absurd (not-suc-le-zero h)
first_before p (suc n) j h = go (which (p zero)) (first_before (λ i. p (suc i)) n) j h
  where
    go : (p zero ≡ true) ⊎ (p zero ≡ false) → ((j : ℕ) → j < first (λ i. p (suc i)) n → p (suc j) ≡ false)
        → (j : ℕ) → j < first p (suc n) → p j ≡ false
    go (inl e) ih j h = absurd (not-suc-le-zero (rw e at h))
    go (inr e) ih zero h = e
    go (inr e) ih (suc j) h = ih j (le_of_suc-le-suc (rw e at h))

pub first_there : (p : ℕ → Bool) (n : ℕ) → first p n < n → p (first p n) ≡ true
unfolding first
first_there p zero h = absurd (not-suc-le-zero h)
first_there p (suc n) h = go (which (p zero)) (first_there (λ i. p (suc i)) n)
  where
    go : (p zero ≡ true) ⊎ (p zero ≡ false) → (first (λ i. p (suc i)) n < n → p (suc (first (λ i. p (suc i)) n)) ≡ true)
        → p (first p (suc n)) ≡ true
    go (inl e) ih = rw e e
    go (inr e) ih = rw e (ih (le_of_suc-le-suc (rw e at h)))
