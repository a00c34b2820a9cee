-- A loop that looks for one that passes, over the numbers below n and over a list; and how far the first that passes depends on n.
-- Assumes nothing.
use mathlib.Core.Path.{◌≡◌, refl, sym, ap, ◌∙◌}
use mathlib.Core.Bool.{Bool, true, false}
use mathlib.Core.List.{List}
use mathlib.Core.Logic.{◌⊎◌, inl, inr}
use Prim.Native.Nat.{ℕ, zero, suc, ◌≤◌, ◌<◌, suc-le-suc, zero-le}
use native.Mathlib.Nat.{le_of_suc-le-suc, not-suc-le-zero}
use native.Mathlib.Omega.{arith}
use lib.ListN.{length, get_or}
use Rattle.theory.specs.Lists.{any, from, first}
use Rattle.theory.proofs.Tests.{which}
use Rattle.theory.proofs.Lists.{any_by, any_none, from_mem, from_at, mem_index, index_mem}

pub below_by : (p : ℕ → Bool) (n k : ℕ) → k < n → p k ≡ true → any p (from 0 n) ≡ true
below_by p n k l e = any_by p (from_mem 0 n zero-le (omega arith)) e

pub below_no : (p : ℕ → Bool) (n : ℕ) → ((k : ℕ) → k < n → p k ≡ false) → any p (from 0 n) ≡ false
below_no p n f = any_none p (from 0 n) (λ k m. f k (omega (arith, from_at 0 n m)))

module _ {A : Type 0} (d : A) (p : A → Bool) (xs : List A) where
  pub index_by : (k : ℕ) → k < length xs → p (get_or xs k d) ≡ true → any p xs ≡ true
  index_by k l e = any_by p (index_mem d xs k l) e

  pub index_no : ((k : ℕ) → k < length xs → p (get_or xs k d) ≡ false) → any p xs ≡ false
  index_no f = any_none p xs (λ x m. let j = mem_index d m in sym (ap p j.2) ∙ f j.0 j.1)

-- ---- the first that passes

pub first_cong : (p q : ℕ → Bool) (n : ℕ) → ((j : ℕ) → j < n → p j ≡ q j) → first p n ≡ first q n
unfolding first
first_cong p q zero e = refl
first_cong p q (suc n) e =
    rw (e zero (suc-le-suc zero-le), first_cong (λ j. p (suc j)) (λ j. q (suc j)) n (λ j h. e (suc j) (suc-le-suc h)))

-- one that passes below n is the first below any greater number too
pub first_more : (p : ℕ → Bool) (n m : ℕ) → n ≤ m → first p n < n → first p m ≡ first p n
unfolding first
first_more p zero m h l = absurd (not-suc-le-zero l)
first_more p (suc n) zero h l = absurd (not-suc-le-zero h)
first_more p (suc n) (suc m) h l = go (which (p zero)) (first_more (λ j. p (suc j)) n m (le_of_suc-le-suc h)) l
  where
    go : (p zero ≡ true) ⊎ (p zero ≡ false) → (first (λ j. p (suc j)) n < n → first (λ j. p (suc j)) m ≡ first (λ j. p (suc j)) n)
        → first p (suc n) < suc n → first p (suc m) ≡ first p (suc n)
    go (inl e) ih l = rw e
    go (inr e) ih l = rw e (ap suc (ih (le_of_suc-le-suc (rw e at l))))
