-- Laws of the orders: which tests are total orders, and counts, the integers and the two truth values as such.
-- A map that keeps the order goes through larger, smaller, largest and smallest: cutting at a level is one.
-- Assumes nothing.
use mathlib.Core.Path.{◌≡◌, refl, sym, ap, ap₂, ◌∙◌}
use mathlib.Core.Bool.{Bool, true, false, not, ◌&&◌, ◌||◌, cond}
use mathlib.Core.List.{List, [], ◌∷◌, map, Memᴰ}
use mathlib.Core.Logic.{◌⊎◌, inl, inr}
use Prim.Native.Nat.{ℕ}
use native.Mathlib.Omega.{arith}
use lib.Dec.{leb}
use lib.IntN.{ℤ, pos, negsuc}
use lib.Signed.{le_z}
use borrow.Author.Tests.{leb-true, leb-false, le-leb}
use Rattle.theory.specs.Lists.{all, any}
use Rattle.theory.specs.Orders.{Order, larger, smaller, largest, smallest, bools, counts}
use Rattle.theory.proofs.Tests.{which, and_true, clash}

-- a test that is a total order
pub record Lawful (A : Type 0) : Type 0 where
  pub leq : Order A
  pub trans : (a b c : A) → leq a b ≡ true → leq b c ≡ true → leq a c ≡ true
  pub total : (a b : A) → leq a b ≡ false → leq b a ≡ true

-- two values that are each at most the other are one
abbrev pub Strict : {A : Type 0} → Order A → Type 0
Strict {A} O = (a b : A) → O a b ≡ true → O b a ≡ true → a ≡ b

-- the same, of the values with P alone: counts need no P, float readings will
abbrev pub StrictOn : {A : Type 0} → Order A → (A → Type 0) → Type 0
StrictOn {A} O P = (a b : A) → P a → P b → O a b ≡ true → O b a ≡ true → a ≡ b

-- ---- counts, the integers and the truth values

abbrev pub counts_lawful : Lawful ℕ
counts_lawful = record {
  leq = counts;
  trans = λ a b c p q. le-leb a c (omega (arith, leb-true a b p, leb-true b c q));
  total = λ a b p. le-leb b a (omega (arith, leb-false a b p));
}

pub ints_trans : (a b c : ℤ) → le_z a b ≡ true → le_z b c ≡ true → le_z a c ≡ true
ints_trans (pos a) (pos b) (pos c) p q = counts_lawful.trans a b c p q
ints_trans (pos a) (pos b) (negsuc c) p q = q
ints_trans (pos a) (negsuc b) (pos c) p q = clash {P = leb a c ≡ true} (cc)
ints_trans (pos a) (negsuc b) (negsuc c) p q = p
ints_trans (negsuc a) (pos b) (pos c) p q = refl
ints_trans (negsuc a) (pos b) (negsuc c) p q = clash {P = leb c a ≡ true} (cc)
ints_trans (negsuc a) (negsuc b) (pos c) p q = refl
ints_trans (negsuc a) (negsuc b) (negsuc c) p q = counts_lawful.trans c b a q p

pub ints_total : (a b : ℤ) → le_z a b ≡ false → le_z b a ≡ true
ints_total (pos a) (pos b) p = counts_lawful.total a b p
ints_total (pos a) (negsuc b) p = refl
ints_total (negsuc a) (pos b) p = clash {P = false ≡ true} p
ints_total (negsuc a) (negsuc b) p = counts_lawful.total b a p

abbrev pub ints_lawful : Lawful ℤ
ints_lawful = record { leq = le_z; trans = ints_trans; total = ints_total }

pub counts_strict : Strict counts
counts_strict a b p q = omega (arith, leb-true a b p, leb-true b a q)

pub bools_strict : Strict bools
bools_strict true b p q = sym p
bools_strict false true p q = q
bools_strict false false p q = refl

-- ---- what an operation makes of several values: the largest is what the larger makes of them, and the smallest what the smaller does

module _ {A : Type 0} (op : A → A → A) where
  unfoldable combined : {X : Type 0} → A → (X → A) → List X → A
  combined d f [] = d
  combined d f (x ∷ []) = f x
  combined d f (x ∷ y ∷ ys) = op (f x) (combined d f (y ∷ ys))

combined_from : {A X : Type 0} {op : A → A → A} (P : A → Type 0) → ((a b : A) → P a → P b → P (op a b)) → (d : A) (f : X → A) (xs : List X)
    → P d → ((x : X) → Memᴰ x xs → P (f x)) → P (combined op d f xs)
unfolding combined
combined_from P both d f [] p q = p
combined_from P both d f (x ∷ []) p q = q x (Memᴰ.head refl)
combined_from P both d f (x ∷ y ∷ ys) p q =
    both _ _ (q x (Memᴰ.head refl)) (combined_from P both d f (y ∷ ys) p (λ z m. q z (Memᴰ.tail m)))

combined_agree : {A X : Type 0} (op : A → A → A) (d d' : A) (f f' : X → A) (x : X) (xs : List X)
    → ((z : X) → Memᴰ z (x ∷ xs) → f z ≡ f' z) → combined op d f (x ∷ xs) ≡ combined op d' f' (x ∷ xs)
unfolding combined
combined_agree op d d' f f' x [] h = h x (Memᴰ.head refl)
combined_agree op d d' f f' x (y ∷ ys) h =
    ap₂ op (h x (Memᴰ.head refl)) (combined_agree op d d' f f' y ys (λ z m. h z (Memᴰ.tail m)))

combined-map : {A X Y : Type 0} (op : A → A → A) (h : X → Y) (d : A) (f : Y → A) (xs : List X)
    → combined op d f (map h xs) ≡ combined op d (λ x. f (h x)) xs
unfolding combined
combined-map op h d f [] = refl
combined-map op h d f (x ∷ []) = refl
combined-map op h d f (x ∷ y ∷ ys) = ap (op (f (h x))) (combined-map op h d f (y ∷ ys))

combined_keeps : {A B X : Type 0} (op : A → A → A) (op' : B → B → B) (h : A → B) → ((a b : A) → h (op a b) ≡ op' (h a) (h b))
    → (d : A) (f : X → A) (xs : List X) → h (combined op d f xs) ≡ combined op' (h d) (λ x. h (f x)) xs
unfolding combined
combined_keeps op op' h e d f [] = refl
combined_keeps op op' h e d f (x ∷ []) = refl
combined_keeps op op' h e d f (x ∷ y ∷ ys) =
    e (f x) (combined op d f (y ∷ ys)) ∙ ap (op' (h (f x))) (combined_keeps op op' h e d f (y ∷ ys))

-- ---- of any test

module _ {A : Type 0} (O : Order A) where
  -- what is so of each of two values is so of the larger and of the smaller
  pub larger_from : (P : A → Type 0) (a b : A) → P a → P b → P (larger O a b)
  unfolding larger
  larger_from P a b p q = go (O a b)
    where
      go : (c : Bool) → P (cond c b a)
      go true = q
      go false = p

  pub smaller_from : (P : A → Type 0) (a b : A) → P a → P b → P (smaller O a b)
  unfolding smaller
  smaller_from P a b p q = go (O a b)
    where
      go : (c : Bool) → P (cond c a b)
      go true = p
      go false = q

  module _ {X : Type 0} where
    largest-combined : (d : A) (f : X → A) (xs : List X) → largest O d f xs ≡ combined (larger O) d f xs
    unfolding largest combined
    largest-combined d f [] = refl
    largest-combined d f (x ∷ []) = refl
    largest-combined d f (x ∷ y ∷ ys) = ap (larger O (f x)) (largest-combined d f (y ∷ ys))

    smallest-combined : (d : A) (f : X → A) (xs : List X) → smallest O d f xs ≡ combined (smaller O) d f xs
    unfolding smallest combined
    smallest-combined d f [] = refl
    smallest-combined d f (x ∷ []) = refl
    smallest-combined d f (x ∷ y ∷ ys) = ap (smaller O (f x)) (smallest-combined d f (y ∷ ys))

    -- what is so of each value and of d is so of the largest and of the smallest
    module _ (P : A → Type 0) (d : A) (f : X → A) (xs : List X) (p : P d) (q : (x : X) → Memᴰ x xs → P (f x)) where
      pub largest_from : P (largest O d f xs)
      largest_from = rw (largest-combined d f xs) (combined_from P (larger_from P) d f xs p q)

      pub smallest_from : P (smallest O d f xs)
      smallest_from = rw (smallest-combined d f xs) (combined_from P (smaller_from P) d f xs p q)

    -- over a list that is not empty, d is not read, and f only at the list's elements
    module _ (d d' : A) (f f' : X → A) (x : X) (xs : List X) (same : (z : X) → Memᴰ z (x ∷ xs) → f z ≡ f' z) where
      pub largest_agree : largest O d f (x ∷ xs) ≡ largest O d' f' (x ∷ xs)
      largest_agree = rw (largest-combined d f (x ∷ xs), largest-combined d' f' (x ∷ xs)) (combined_agree (larger O) d d' f f' x xs same)

      pub smallest_agree : smallest O d f (x ∷ xs) ≡ smallest O d' f' (x ∷ xs)
      smallest_agree =
          rw (smallest-combined d f (x ∷ xs), smallest-combined d' f' (x ∷ xs)) (combined_agree (smaller O) d d' f f' x xs same)

  -- the values of a mapped list
  module _ {X Y : Type 0} (h : X → Y) (d : A) (f : Y → A) (xs : List X) where
    pub largest-map : largest O d f (map h xs) ≡ largest O d (λ x. f (h x)) xs
    largest-map = largest-combined d f (map h xs) ∙ combined-map (larger O) h d f xs ∙ sym (largest-combined d (λ x. f (h x)) xs)

    pub smallest-map : smallest O d f (map h xs) ≡ smallest O d (λ x. f (h x)) xs
    smallest-map = smallest-combined d f (map h xs) ∙ combined-map (smaller O) h d f xs ∙ sym (smallest-combined d (λ x. f (h x)) xs)

-- ---- bounds

module _ {A : Type 0} (O : Lawful A) where
  pub leq_refl : (a : A) → O.leq a a ≡ true
  leq_refl a = go (which (O.leq a a))
    where
      go : (O.leq a a ≡ true) ⊎ (O.leq a a ≡ false) → O.leq a a ≡ true
      go (inl e) = e
      go (inr e) = O.total a a e

  -- a value is known by the levels that it reaches
  pub same_levels : {P : A → Type 0} → StrictOn O.leq P → (a b : A) → P a → P b → ((t : A) → O.leq t a ≡ O.leq t b) → a ≡ b
  same_levels anti a b p q f = anti a b p q (sym (f a) ∙ leq_refl a) (f b ∙ leq_refl b)

  -- the order read backwards: its smaller is the larger, with the two exchanged
  unfoldable pub flip : Lawful A
  flip = record { leq = λ a b. O.leq b a; trans = λ a b c p q. O.trans c b a q p; total = λ a b. O.total b a }

  pub smaller_left : (a b : A) → O.leq (smaller O.leq a b) a ≡ true
  unfolding smaller
  smaller_left a b = go (which (O.leq a b))
    where
      go : (O.leq a b ≡ true) ⊎ (O.leq a b ≡ false) → O.leq (cond (O.leq a b) a b) a ≡ true
      go (inl e) = rw e (leq_refl a)
      go (inr e) = rw e (O.total a b e)

  pub smaller_right : (a b : A) → O.leq (smaller O.leq a b) b ≡ true
  unfolding smaller
  smaller_right a b = go (which (O.leq a b))
    where
      go : (O.leq a b ≡ true) ⊎ (O.leq a b ≡ false) → O.leq (cond (O.leq a b) a b) b ≡ true
      go (inl e) = rw e e
      go (inr e) = rw e (leq_refl b)

module _ {A : Type 0} (O : Lawful A) where
  pub larger_left : (a b : A) → O.leq a (larger O.leq a b) ≡ true
  unfolding flip larger smaller
  larger_left a b = smaller_right (flip O) b a

  pub larger_right : (a b : A) → O.leq b (larger O.leq a b) ≡ true
  unfolding flip larger smaller
  larger_right a b = smaller_left (flip O) b a

  module _ {X : Type 0} (d : A) (f : X → A) {x : X} where
    pub smallest-le : (xs : List X) → Memᴰ x xs → O.leq (smallest O.leq d f xs) (f x) ≡ true
    unfolding smallest
    smallest-le [] m = elim m [ ]
    smallest-le (y ∷ []) (Memᴰ.head e) = rw e (leq_refl O (f y))
    smallest-le (y ∷ []) (Memᴰ.tail m) = elim m [ ]
    smallest-le (y ∷ z ∷ zs) (Memᴰ.head e) = rw e (smaller_left O (f y) _)
    smallest-le (y ∷ z ∷ zs) (Memᴰ.tail m) = O.trans _ _ _ (smaller_right O (f y) _) (smallest-le (z ∷ zs) m)

    pub le-largest : (xs : List X) → Memᴰ x xs → O.leq (f x) (largest O.leq d f xs) ≡ true
    unfolding largest
    le-largest [] m = elim m [ ]
    le-largest (y ∷ []) (Memᴰ.head e) = rw e (leq_refl O (f y))
    le-largest (y ∷ []) (Memᴰ.tail m) = elim m [ ]
    le-largest (y ∷ z ∷ zs) (Memᴰ.head e) = rw e (larger_left (f y) _)
    le-largest (y ∷ z ∷ zs) (Memᴰ.tail m) = O.trans _ _ _ (le-largest (z ∷ zs) m) (larger_right (f y) _)

-- the smallest over a list, by the element that is
pub smallest_is : {A : Type 0} (O : Lawful A) → Strict O.leq → {X : Type 0} (d : A) (f : X → A) {x : X} (xs : List X) → Memᴰ x xs
    → ((y : X) → Memᴰ y xs → O.leq (f x) (f y) ≡ true) → smallest O.leq d f xs ≡ f x
smallest_is O anti d f [] m h = elim m [ ]
smallest_is O anti d f {x} (y ∷ ys) m h =
    smallest_agree O.leq d (f x) f f y ys (λ z k. refl)
    ∙ anti _ _ (smallest-le O (f x) f (y ∷ ys) m) (smallest_from O.leq (λ a. O.leq (f x) a ≡ true) (f x) f (y ∷ ys) (h x m) h)

-- ---- a map that keeps the order goes through larger, smaller, largest and smallest

abbrev pub Monotone : {A B : Type 0} → Order A → Order B → (A → B) → Type 0
Monotone {A} O P h = (a b : A) → O a b ≡ true → P (h a) (h b) ≡ true

module _ {A B : Type 0} (O : Lawful A) (P : Order B) (anti : Strict P) (h : A → B) (mono : Monotone O.leq P h) where
  pub keeps_larger : (a b : A) → h (larger O.leq a b) ≡ larger P (h a) (h b)
  unfolding larger
  keeps_larger a b = go (which (O.leq a b)) (which (P (h a) (h b)))
    where
      go : (O.leq a b ≡ true) ⊎ (O.leq a b ≡ false) → (P (h a) (h b) ≡ true) ⊎ (P (h a) (h b) ≡ false)
          → h (cond (O.leq a b) b a) ≡ cond (P (h a) (h b)) (h b) (h a)
      go (inl e) q = rw (e, mono a b e)
      go (inr e) (inl q) = rw (e, q) (anti (h a) (h b) q (mono b a (O.total a b e)))
      go (inr e) (inr q) = rw (e, q)

  pub keeps_smaller : (a b : A) → h (smaller O.leq a b) ≡ smaller P (h a) (h b)
  unfolding smaller
  keeps_smaller a b = go (which (O.leq a b)) (which (P (h a) (h b)))
    where
      go : (O.leq a b ≡ true) ⊎ (O.leq a b ≡ false) → (P (h a) (h b) ≡ true) ⊎ (P (h a) (h b) ≡ false)
          → h (cond (O.leq a b) a b) ≡ cond (P (h a) (h b)) (h a) (h b)
      go (inl e) q = rw (e, mono a b e)
      go (inr e) (inl q) = rw (e, q) (anti (h b) (h a) (mono b a (O.total a b e)) q)
      go (inr e) (inr q) = rw (e, q)

  module _ {X : Type 0} (d : A) (f : X → A) (xs : List X) where
    pub keeps_largest : h (largest O.leq d f xs) ≡ largest P (h d) (λ x. h (f x)) xs
    keeps_largest =
        ap h (largest-combined O.leq d f xs)
        ∙ combined_keeps (larger O.leq) (larger P) h keeps_larger d f xs
        ∙ sym (largest-combined P (h d) (λ x. h (f x)) xs)

    pub keeps_smallest : h (smallest O.leq d f xs) ≡ smallest P (h d) (λ x. h (f x)) xs
    keeps_smallest =
        ap h (smallest-combined O.leq d f xs)
        ∙ combined_keeps (smaller O.leq) (smaller P) h keeps_smaller d f xs
        ∙ sym (smallest-combined P (h d) (λ x. h (f x)) xs)

-- ---- over the truth values, the larger is "or" and the smaller "and"

larger_or : (a b : Bool) → larger bools a b ≡ (a || b)
unfolding larger
larger_or true true = refl
larger_or true false = refl
larger_or false b = refl

smaller_and : (a b : Bool) → smaller bools a b ≡ (a && b)
unfolding smaller
smaller_and true true = refl
smaller_and true false = refl
smaller_and false b = refl

or_false : (a : Bool) → a ≡ (a || false)
or_false true = refl
or_false false = refl

pub largest_any : {X : Type 0} (p : X → Bool) (xs : List X) → largest bools false p xs ≡ any p xs
unfolding largest any
largest_any p [] = refl
largest_any p (x ∷ []) = or_false (p x)
largest_any p (x ∷ y ∷ ys) = larger_or (p x) _ ∙ ap (λ (b : Bool). p x || b) (largest_any p (y ∷ ys))

pub smallest_all : {X : Type 0} (p : X → Bool) (xs : List X) → smallest bools true p xs ≡ all p xs
unfolding smallest all
smallest_all p [] = refl
smallest_all p (x ∷ []) = sym (and_true (p x))
smallest_all p (x ∷ y ∷ ys) = smaller_and (p x) _ ∙ ap (λ (b : Bool). p x && b) (smallest_all p (y ∷ ys))

-- cutting at a level keeps the order
pub cut_monotone : {A : Type 0} (O : Lawful A) (t : A) → Monotone O.leq bools (O.leq t)
cut_monotone O t a b e = go (which (O.leq t a))
  where
    go : (O.leq t a ≡ true) ⊎ (O.leq t a ≡ false) → (not (O.leq t a) || O.leq t b) ≡ true
    go (inl p) = rw (p, O.trans t a b p e)
    go (inr p) = rw p
