-- A number's digits: they are as many as the fewest that hold it, which is how many the toolchain's `io` writes.
-- Assumes nothing.
use mathlib.Core.Path.{◌≡◌, refl, sym, ap, ◌∙◌}
use mathlib.Core.Bool.{Bool, true, false}
use mathlib.Core.List.{[], ◌∷◌}
use mathlib.Core.Logic.{◌⊎◌, inl, inr}
use Prim.Native.Nat.{ℕ, zero, suc, ◌-◌, ◌/◌, ◌%◌, ◌^◌, ◌≤◌, ◌<◌, suc-le-suc}
use native.Mathlib.Nat.{pow-suc, pow-le-pow_right, le_trans, lt_of_lt_of_le}
use native.Mathlib.Omega.{arith}
use lib.Dec.{ltb, eqb, lit≤}
use lib.ListN.{length, length-append}
use borrow.Author.Tests.{lt-ltb, le-ltb, ltb-true, ltb-false, eqb-true, eqb-false}
use Rattle.io.specs.Digits.{hex_digit_ascii, last_digits, IsDigitCount}
use Rattle.theory.specs.Lists.{first}
use Rattle.theory.proofs.Tests.{which, not_both}
use Rattle.theory.proofs.Lists.{first_at, first_none}
use Rattle.reports.proofs.Sums.{first_before}
use Rattle.lines.specs.Lines.{digits_of, decimal}

pub length_digits : (b k n : ℕ) → length (last_digits b k n) ≡ k
length_digits b zero n = refl
length_digits b (suc k) n = omega (arith, length-append (last_digits b k (n / b)) (hex_digit_ascii (n % b) ∷ []), length_digits b k (n / b))

pub length-decimal : (n : ℕ) → length (decimal n) ≡ digits_of n
unfolding decimal
length-decimal n = length_digits 10 (digits_of n) n

pub lt_power : (j : ℕ) → j < 10 ^ j
lt_power zero = omega arith
lt_power (suc j) = omega (arith, pow-suc 10 j, lt_power j)

-- the first that passes, also where it is the last that is asked
first_is : (p : ℕ → Bool) (n k : ℕ) → k ≤ n → ((j : ℕ) → j < k → p j ≡ false) → p k ≡ true → first p n ≡ k
first_is p n k h f t = go (which (eqb k n))
  where
    go : (eqb k n ≡ true) ⊎ (eqb k n ≡ false) → first p n ≡ k
    go (inl e) = let z : k ≡ n = eqb-true k n e in first_none p n (λ j l. f j (omega arith)) ∙ sym z
    go (inr e) = let ne : k ≡ n → ⊥ = eqb-false k n e in first_at p n k (omega arith) f t

pub digits_fewest : (n k : ℕ) → IsDigitCount 10 1 n k → k ≡ digits_of n
unfolding digits_of
digits_fewest n zero h = absurd (omega arith)
digits_fewest n (suc j) h = ap suc (sym (first_is (λ i. ltb n (10 ^ suc i)) n j (fits (which (eqb j 0))) below (lt-ltb n (10 ^ suc j) h.1)))
  where
    held : 0 < j → 10 ^ j ≤ n
    held l = let e : suc j - 1 ≡ j = omega arith in rw e at (h.2 (omega arith))

    fits : (eqb j 0 ≡ true) ⊎ (eqb j 0 ≡ false) → j ≤ n
    fits (inl e) = omega (arith, eqb-true j 0 e)
    fits (inr e) = let ne : j ≡ 0 → ⊥ = eqb-false j 0 e in omega (arith, lt_power j, held (omega arith))

    below : (i : ℕ) → i < j → ltb n (10 ^ suc i) ≡ false
    below i l = le-ltb n (10 ^ suc i) (le_trans (pow-le-pow_right (omega arith) l) (held (omega arith)))

-- a number below a power of 10 has no more digits than the power says
pub digits_most : (n i : ℕ) → n < 10 ^ suc i → digits_of n ≤ suc i
unfolding digits_of
digits_most n i u = go (which (ltb i (first p n)))
  where
    p : ℕ → Bool
    p k = ltb n (10 ^ suc k)

    go : (ltb i (first p n) ≡ true) ⊎ (ltb i (first p n) ≡ false) → suc (first p n) ≤ suc i
    go (inl e) = absurd (not_both (lt-ltb n (10 ^ suc i) u) (first_before p n i (ltb-true i (first p n) e)))
    go (inr e) = suc-le-suc (ltb-false i (first p n) e)

-- a number of 64 bits has at most 20
pub digits_short : (n : ℕ) → n < 2 ^ 64 → digits_of n ≤ 20
digits_short n u = digits_most n 19 (lt_of_lt_of_le u (lit≤ tt))
