-- The walks of the code over any order: the smallest over a term's positions, part by part, and the largest over the terms, one at a time.
-- Assumes nothing.
use mathlib.Core.Path.{◌≡◌, refl, sym}
use mathlib.Core.Bool.{Bool, true, false, cond}
use mathlib.Core.List.{List, [], ◌∷◌}
use mathlib.Core.Logic.{◌⊎◌, inl, inr}
use Prim.Native.Nat.{ℕ, zero, suc, ◌+◌, ◌≤◌, ◌<◌}
use native.Mathlib.Nat.{zero-add, suc-add, add-zero, add-suc}
use native.Mathlib.Numerals.{add-one}
use lib.ListN.{length, get_or, drop, drop_of_length-le}
use lib.Seq.{drop-cons}
use Rattle.theory.specs.Lists.{keep, from}
use Rattle.theory.specs.Orders.{larger, smaller, largest, smallest}
use Rattle.theory.proofs.Tests.{which, not_both}
use Rattle.theory.proofs.Lists.{put}
use Rattle.theory.proofs.Orders.{Lawful, StrictOn, flip, leq_refl, largest_from, smallest_from}

module _ {A : Type 0} (O : Lawful A) where
  pub smaller_assoc : (a b c : A) → smaller O.leq (smaller O.leq a b) c ≡ smaller O.leq a (smaller O.leq b c)
  unfolding smaller
  smaller_assoc a b c = go (which (O.leq a b)) (which (O.leq b c)) (which (O.leq a c))
    where
      go : (O.leq a b ≡ true) ⊎ (O.leq a b ≡ false) → (O.leq b c ≡ true) ⊎ (O.leq b c ≡ false)
          → (O.leq a c ≡ true) ⊎ (O.leq a c ≡ false)
          → smaller O.leq (smaller O.leq a b) c ≡ smaller O.leq a (smaller O.leq b c)
      go (inl p) (inl q) r = rw (p, q, p, O.trans a b c p q)
      go (inl p) (inr q) r = rw (p, q)
      go (inr p) (inl q) r = rw (p, q, p)
      go (inr p) (inr q) (inl r) = absurd (not_both (O.trans a c b r (O.total b c q)) p)
      go (inr p) (inr q) (inr r) = rw (p, q, r)

  -- a value at most d stays where d stands behind it
  pub smaller_top : (a d : A) → O.leq a d ≡ true → smaller O.leq a d ≡ a
  unfolding smaller
  smaller_top a d h = rw h

  module _ {P : A → Type 0} (anti : StrictOn O.leq P) where
    -- and where d stands before it
    pub top_smaller : (a d : A) → P a → P d → O.leq a d ≡ true → smaller O.leq d a ≡ a
    unfolding smaller
    top_smaller a d pa pd h = go (which (O.leq d a))
      where
        go : (O.leq d a ≡ true) ⊎ (O.leq d a ≡ false) → smaller O.leq d a ≡ a
        go (inl e) = rw e (anti d a pd pa e h)
        go (inr e) = rw e

module _ {A : Type 0} (O : Lawful A) where
  larger_assoc : (a b c : A) → larger O.leq (larger O.leq a b) c ≡ larger O.leq a (larger O.leq b c)
  unfolding flip larger smaller
  larger_assoc a b c = sym (smaller_assoc (flip O) c b a)

  -- a value at least d stays where d stands before it
  pub bottom_larger : (a d : A) → O.leq d a ≡ true → larger O.leq d a ≡ a
  unfolding flip larger smaller
  bottom_larger a d h = smaller_top (flip O) a d h

  module _ {P : A → Type 0} (anti : StrictOn O.leq P) where
    -- and where d stands behind it
    pub larger_bottom : (a d : A) → P a → P d → O.leq d a ≡ true → larger O.leq a d ≡ a
    unfolding flip larger smaller
    larger_bottom a d pa pd h = top_smaller (flip O) {P = P} (λ x y px py e f. anti x y px py f e) a d pa pd h

    -- ---- the smallest over some positions, part by part

    module _ (d : A) (pd : P d) (n : ℕ → A) (each : (i : ℕ) → P (n i)) (top : (i : ℕ) → O.leq (n i) d ≡ true) where
      abbrev over : List ℕ → A
      over xs = smallest O.leq d n xs

      smallest-cons : (x : ℕ) (xs : List ℕ) → over (x ∷ xs) ≡ smaller O.leq (n x) (over xs)
      unfolding smallest
      smallest-cons x [] = sym (smaller_top O (n x) d (top x))
      smallest-cons x (y ∷ ys) = refl

      smallest_within : (xs : List ℕ) → P (over xs) × (O.leq (over xs) d ≡ true)
      smallest_within xs = (
        smallest_from O.leq P d n xs pd (λ i m. each i),
        smallest_from O.leq (λ a. O.leq a d ≡ true) d n xs (leq_refl O d) (λ i m. top i),
      )

      module _ (p : ℕ → Bool) where
        pub smallest_one : (i : ℕ) → over (keep p (from i 1)) ≡ cond (p i) (n i) d
        unfolding smallest keep from
        smallest_one i = go (p i)
          where
            go : (b : Bool) → over (put b i []) ≡ cond b (n i) d
            go true = refl
            go false = refl

        pub smallest_split : (k m i : ℕ) → over (keep p (from i (k + m)))
            ≡ smaller O.leq (over (keep p (from i k))) (over (keep p (from (i + k) m)))
        unfolding smallest keep from
        smallest_split zero m i =
            let rest = smallest_within (keep p (from i m)) in
            rw (zero-add m, add-zero i) (sym (top_smaller O anti _ d rest.0 pd rest.1))
        smallest_split (suc k) m i = rw (suc-add k m, add-suc i k) (go (p i) (rw (suc-add i k) at (smallest_split k m (suc i))))
          where
            both : List ℕ
            both = keep p (from (suc i) (k + m))

            front : List ℕ
            front = keep p (from (suc i) k)

            rest : List ℕ
            rest = keep p (from (suc (i + k)) m)

            go : (b : Bool) → over both ≡ smaller O.leq (over front) (over rest) → over (put b i both)
                ≡ smaller O.leq (over (put b i front)) (over rest)
            go true ih = rw (smallest-cons i both, smallest-cons i front, ih) (sym (smaller_assoc O _ _ _))
            go false ih = ih

    -- ---- the largest over a list, one element at a time

    module _ (d : A) (pd : P d) (F : ℕ → A) (each : (x : ℕ) → P (F x)) (bottom : (x : ℕ) → O.leq d (F x) ≡ true) (xs : List ℕ) where
      abbrev among : List ℕ → A
      among ys = largest O.leq d F ys

      largest-cons : (y : ℕ) (ys : List ℕ) → among (y ∷ ys) ≡ larger O.leq (F y) (among ys)
      unfolding largest
      largest-cons y [] = sym (larger_bottom (F y) d (each y) pd (bottom y))
      largest-cons y (z ∷ zs) = refl

      pub largest_start : larger O.leq d (among (drop 0 xs)) ≡ among xs
      largest_start = bottom_larger (among xs) d (largest_from O.leq (λ a. O.leq d a ≡ true) d F xs (leq_refl O d) (λ x m. bottom x))

      pub largest_turn : (k : ℕ) → k < length xs → (m : A)
          → larger O.leq (larger O.leq m (F (get_or xs k 0))) (among (drop (k + 1) xs)) ≡ larger O.leq m (among (drop k xs))
      largest_turn k h m = rw (add-one, drop-cons xs k 0 h, largest-cons) (larger_assoc m _ _)

      pub largest-end : (k : ℕ) → length xs ≤ k → (m : A) → P m → O.leq d m ≡ true → larger O.leq m (among (drop k xs)) ≡ m
      unfolding largest
      largest-end k h m pm l = rw (drop_of_length-le xs h) (larger_bottom m d pm pd l)
