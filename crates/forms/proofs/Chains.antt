-- What a chain of iterators finds, in the words of the definitions: a test over a list, over the start of one, and over numbers.
-- Assumes nothing.
use mathlib.Core.Path.{◌≡◌, refl, sym, ap}
use mathlib.Core.Bool.{Bool, true, false, ◌||◌, cond}
use mathlib.Core.List.{List, [], ◌∷◌}
use Prim.Native.Nat.{ℕ, zero, suc, ◌≤◌, ◌<◌, zero-le}
use Prim.Native.Nat.compare
use native.Mathlib.Nat.{le_of_suc-le-suc, not-suc-le-zero}
use native.Mathlib.Numerals.{add-one}
use native.Mathlib.Omega.{arith}
use borrow.Author.Tests.{lt-ltb}
use lib.Dec.{ltb}
use lib.ListN.{length, get_or, take}
use Rattle.std.specs.List.{list_any, range_with_len}
use Rattle.std.specs.Option.{MatchOption}
use Rattle.std.specs.Prelude.{Option, Some, None}
use Rattle.theory.specs.Lists.{any, from, first, any_below}
use Rattle.theory.proofs.Lists.{first_at, any_below-at, any_below_none}

-- some element passes
pub any_list : {A : Type 0} (p : A → Bool) (xs : List A) → list_any p xs ≡ any p xs
unfolding any
any_list p [] = refl
any_list p (x ∷ xs) = ap (λ (b : Bool). p x || b) (any_list p xs)

-- some number from a on passes
pub any_range : (p : ℕ → Bool) (a n : ℕ) → list_any p (range_with_len a n) ≡ any p (from a n)
unfolding any from
any_range p a zero = refl
any_range p a (suc n) = ap (λ (b : Bool). p a || b) (rw add-one (any_range p (suc a) n))

-- some of the first n elements passes
pub any_start : {A : Type 0} (d : A) (p : A → Bool) (xs : List A) (n : ℕ) → n ≤ length xs → list_any p (take n xs) ≡ any_below (λ j. p (get_or xs j d)) n
unfolding any_below first
any_start d p xs zero h = refl
any_start d p [] (suc n) h = absurd (not-suc-le-zero h)
any_start d p (x ∷ xs) (suc n) h = go (p x) (any_start d p xs n (le_of_suc-le-suc h))
  where
    least : ℕ
    least = first (λ j. p (get_or xs j d)) n

    go : (b : Bool) {later : Bool} → later ≡ ltb least n → (b || later) ≡ ltb (cond b zero (suc least)) (suc n)
    go true e = sym (lt-ltb 0 (suc n) (omega arith))
    go false e = rw compare.suc-suc e

-- what `find` gives over the numbers below n: the first that passes, where some does
pub first_found : (p : ℕ → Bool) (n : ℕ) (r : Option ℕ)
    → MatchOption r ((k : ℕ) → 0 ≤ k → k < n → p k ≡ false) (λ i. (0 ≤ i) × (i < n) × (p i ≡ true) × ((k : ℕ) → 0 ≤ k → k < i → p k ≡ false))
    → MatchOption r (any_below p n ≡ false) (λ i. (any_below p n ≡ true) × (first p n ≡ i))
first_found p n None none = any_below_none p n (λ k l. none k zero-le l)
first_found p n (Some i) found =
    let before : (k : ℕ) → k < i → p k ≡ false = λ k l. found.3 k zero-le l in
    (any_below-at p n i found.1 before found.2, first_at p n i found.1 before found.2)
