-- Searches: the first that passes, taken apart, and what a search from above keeps.
-- Assumes nothing.
use mathlib.Core.Path.{◌≡◌, ap, ◌∙◌}
use mathlib.Core.Bool.{Bool, true, false}
use mathlib.Core.Logic.{◌⊎◌, inl, inr}
use Prim.Native.Nat.{ℕ, zero, suc, ◌+◌, ◌-◌, ◌≤◌, ◌<◌}
use native.Mathlib.Nat.{le_of_suc-le-suc, not-suc-le-zero}
use native.Mathlib.Omega.{arith}
use Rattle.std.specs.Prelude.{Option, MatchOption, find}
use Rattle.std.specs.List.{range_with_len}
use Rattle.std.specs.declared.option.Option.TheVariants as option
use Rattle.theory.specs.Lists.{first}
use Rattle.theory.proofs.Tests.{which}
use Rattle.theory.proofs.Differences.{side}

-- where there is a first, it passes
pub first_passes : (p : ℕ → Bool) (n : ℕ) → first p n < n → p (first p n) ≡ true
unfolding first
first_passes p zero h = absurd (not-suc-le-zero h)
first_passes p (suc n) h = go (which (p zero)) (first_passes (λ k. p (suc k)) n)
  where
    go : (p zero ≡ true) ⊎ (p zero ≡ false)
        → (first (λ k. p (suc k)) n < n → p (suc (first (λ k. p (suc k)) n)) ≡ true)
        → p (first p (suc n)) ≡ true
    go (inl e) ih = rw e e
    go (inr e) ih = rw e (ih (le_of_suc-le-suc (rw e at h)))

-- none before the first passes
pub first_before : (p : ℕ → Bool) (n j : ℕ) → j < first p n → p j ≡ false
unfolding first
first_before p zero j h = absurd (not-suc-le-zero h)
first_before p (suc n) j h = go (which (p zero)) (first_before (λ k. p (suc k)) n) j h
  where
    go : (p zero ≡ true) ⊎ (p zero ≡ false)
        → ((j : ℕ) → j < first (λ k. p (suc k)) n → p (suc j) ≡ false)
        → (j : ℕ) → j < first p (suc n) → p j ≡ false
    go (inl e) ih j h = absurd (not-suc-le-zero (rw e at h))
    go (inr e) ih zero h = e
    go (inr e) ih (suc j) h = ih j (le_of_suc-le-suc (rw e at h))

-- ---- from above: none from k up to n passes

pub above_none : (p : ℕ → Bool) (n j : ℕ) → n ≤ j → j < n → p j ≡ false
above_none p n j h l = absurd (omega arith)

pub above_more : (p : ℕ → Bool) (n k : ℕ) → 0 < k → ((j : ℕ) → k ≤ j → j < n → p j ≡ false) → p (k - 1) ≡ false
    → (j : ℕ) → k - 1 ≤ j → j < n → p j ≡ false
above_more p n k h above here j l u = go (side j k)
  where
    go : (j < k) ⊎ (k ≤ j) → p j ≡ false
    go (inl b) = let e : j ≡ k - 1 = omega arith in ap p e ∙ here
    go (inr b) = above j b u

-- ---- a search that gives what it found, if it found one

pub match_map : (o : Option ℕ) {None None' : Type 0} {Some Some' : ℕ → Type 0} → (None → None') → ((k : ℕ) → Some k → Some' k)
    → MatchOption o None Some → MatchOption o None' Some'
match_map option.None f g m = f m
match_map (option.Some k) f g m = g k m

-- what a list of neighbours gives is the first that passes
pub find_from : (p q : ℕ → Bool) (a n : ℕ) → ((k : ℕ) → q k ≡ p (a + k))
    → MatchOption (find p (range_with_len a n)) (first q n ≡ n) (λ k. (k ≡ a + first q n) × (first q n < n))
unfolding first
find_from p q a zero same = λ i. zero
find_from p q a (suc n) same = go (which (p a)) (find_from p (λ k. q (suc k)) (a + 1) n next)
  where
    next : (k : ℕ) → q (suc k) ≡ p ((a + 1) + k)
    next k = let e : a + suc k ≡ (a + 1) + k = omega arith in same (suc k) ∙ ap p e

    front : q zero ≡ p a
    front = let e : a + zero ≡ a = omega arith in same zero ∙ ap p e

    go : (p a ≡ true) ⊎ (p a ≡ false)
        → MatchOption (find p (range_with_len (a + 1) n)) (first (λ k. q (suc k)) n ≡ n)
        (λ k. (k ≡ (a + 1) + first (λ k. q (suc k)) n) × (first (λ k. q (suc k)) n < n))
        → MatchOption (find p (range_with_len a (suc n))) (first q (suc n) ≡ suc n) (λ k. (k ≡ a + first q (suc n)) × (first q (suc n) < suc n))
    go (inl e) ih = rw (front, e) (omega arith, omega arith)
    go (inr e) ih = rw (front, e) (match_map (find p (range_with_len (a + 1) n)) (λ none. ap suc none) (λ k at. (omega (arith, at.0), omega (arith, at.1))) ih)
