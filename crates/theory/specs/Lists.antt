-- Lists: tests over a list, what passes, the first that passes, a list by its rule, a count and a sum.
use Rattle.std.specs.Prelude.{Bool, true, false, ◌&&◌, ◌||◌, cond, List, [], ◌∷◌, ℕ, zero, suc, ◌+◌, ltb}

module _ {A : Type 0} where
  -- every element passes
  unfoldable pub all : (A → Bool) → List A → Bool
  all p [] = true
  all p (x ∷ xs) = p x && all p xs

  -- some element passes
  unfoldable pub any : (A → Bool) → List A → Bool
  any p [] = false
  any p (x ∷ xs) = p x || any p xs

  -- the elements that pass, in order
  unfoldable pub keep : (A → Bool) → List A → List A
  keep p [] = []
  keep p (x ∷ xs) = let rest = keep p xs in cond (p x) (x ∷ rest) rest

  -- f 0, f 1, .. up to f (n - 1)
  unfoldable pub tab : ℕ → (ℕ → A) → List A
  tab zero f = []
  tab (suc n) f = f zero ∷ tab n (λ k. f (suc k))

-- the n numbers from a on
unfoldable pub from : ℕ → ℕ → List ℕ
from a zero = []
from a (suc n) = a ∷ from (suc a) n

-- the least k < n that passes, or n where none does
unfoldable pub first : (ℕ → Bool) → ℕ → ℕ
first p zero = zero
first p (suc n) = cond (p zero) zero (suc (first (λ k. p (suc k)) n))

-- some k < n passes
unfoldable pub any_below : (ℕ → Bool) → ℕ → Bool
any_below p n = ltb (first p n) n

-- a truth value as a number
unfoldable pub bit : Bool → ℕ
bit b = cond b 1 0

-- f 0 + f 1 + .. + f (n - 1)
unfoldable pub sum : ℕ → (ℕ → ℕ) → ℕ
sum zero f = 0
sum (suc n) f = sum n f + f n

-- how many of 1 .. n pass
unfoldable pub tally : ℕ → (ℕ → Bool) → ℕ
tally n p = sum n (λ k. bit (p (suc k)))
