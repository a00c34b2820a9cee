-- Laws of the lists: all, any, keep, the numbers from a on, the first that passes, a list by its rule, a count.
-- Assumes nothing.
use mathlib.Core.Path.{◌≡◌, refl, sym, ap, ap₂, ◌∙◌}
use mathlib.Core.Bool.{Bool, true, false, ◌||◌, cond}
use mathlib.Core.List.Memᴰ
use mathlib.Core.List.{List, [], ◌∷◌, ◌++◌, map, append-nil, Memᴰ}
use mathlib.Core.Logic.{◌⊎◌, inl, inr}
use Prim.Native.Nat.{ℕ, zero, suc, ◌+◌, ◌≤◌, ◌<◌, min, suc-le-suc, zero-le}
use native.Mathlib.Nat.{le_of_suc-le-suc, not-suc-le-zero}
use native.Mathlib.Numerals.{add-one}
use native.Mathlib.Omega.{arith}
use lib.Dec.{leb, eqb}
use lib.ListN.{length, get_or, drop, set, drop_of_length-le}
use lib.Seq.{drop-cons, set_at, append_snoc}
use borrow.Author.Tests.{eqb-true, eqb-false, lt-ltb, le-ltb, ltb-false, leb-true, leb-false}
use Rattle.theory.specs.Lists.{all, any, keep, tab, from, first, any_below, bit, sum, tally}
use Rattle.theory.proofs.Tests.{which, not_both, and_left, and_right, and_both, or_left, or_right, or_cases}

module _ {A : Type 0} where
  pub all_at : (p : A → Bool) {x : A} {xs : List A} → all p xs ≡ true → Memᴰ x xs → p x ≡ true
  unfolding all
  all_at p e (Memᴰ.head q) = ap p q ∙ and_left _ _ e
  all_at p e (Memᴰ.tail {x = y} m) = all_at p (and_right (p y) _ e) m

  pub all_by : (p : A → Bool) (xs : List A) → ((x : A) → Memᴰ x xs → p x ≡ true) → all p xs ≡ true
  unfolding all
  all_by p [] f = refl
  all_by p (x ∷ xs) f = and_both (f x (Memᴰ.head refl)) (all_by p xs (λ y m. f y (Memᴰ.tail m)))

  pub any_by : (p : A → Bool) {x : A} {xs : List A} → Memᴰ x xs → p x ≡ true → any p xs ≡ true
  unfolding any
  any_by p (Memᴰ.head q) e = or_left _ (sym (ap p q) ∙ e)
  any_by p (Memᴰ.tail {x = y} m) e = or_right (p y) (any_by p m e)

  pub any_at : (p : A → Bool) (xs : List A) → any p xs ≡ true → (x : A) × Memᴰ x xs × (p x ≡ true)
  unfolding any
  any_at p [] e = absurd (not_both e refl)
  any_at p (x ∷ xs) e = go (any_at p xs) (or_cases _ _ e)
    where
      go : (any p xs ≡ true → (y : A) × Memᴰ y xs × (p y ≡ true)) → (p x ≡ true) ⊎ (any p xs ≡ true)
          → (y : A) × Memᴰ y (x ∷ xs) × (p y ≡ true)
      go ih (inl q) = (x, Memᴰ.head refl, q)
      go ih (inr q) = ((ih q).0, Memᴰ.tail (ih q).1, (ih q).2)

  -- x in front, where it is kept
  abbrev pub put : Bool → A → List A → List A
  put b x xs = cond b (x ∷ xs) xs

  pub keep_mem : (p : A → Bool) {x : A} {xs : List A} → Memᴰ x xs → p x ≡ true → Memᴰ x (keep p xs)
  unfolding keep
  keep_mem p (Memᴰ.head q) e = rw (sym (ap p q) ∙ e) (Memᴰ.head q)
  keep_mem p {x} (Memᴰ.tail {x = y} {xs = ys} m) e = go (p y) (keep_mem p m e)
    where
      go : (b : Bool) → Memᴰ x (keep p ys) → Memᴰ x (put b y (keep p ys))
      go true k = Memᴰ.tail k
      go false k = k

  pub keep_at : (p : A → Bool) {x : A} (xs : List A) → Memᴰ x (keep p xs) → Memᴰ x xs × (p x ≡ true)
  unfolding keep
  keep_at p [] m = elim m [ ]
  keep_at p {x} (y ∷ ys) m = go (p y) refl (keep_at p ys) m
    where
      go : (b : Bool) → p y ≡ b → (Memᴰ x (keep p ys) → Memᴰ x ys × (p x ≡ true)) → Memᴰ x (put b y (keep p ys))
          → Memᴰ x (y ∷ ys) × (p x ≡ true)
      go true e ih (Memᴰ.head q) = (Memᴰ.head q, ap p q ∙ e)
      go true e ih (Memᴰ.tail k) = (Memᴰ.tail (ih k).0, (ih k).1)
      go false e ih k = (Memᴰ.tail (ih k).0, (ih k).1)

  pub keep_cong : (p q : A → Bool) (xs : List A) → ((x : A) → Memᴰ x xs → p x ≡ q x) → keep p xs ≡ keep q xs
  unfolding keep
  keep_cong p q [] f = refl
  keep_cong p q (x ∷ xs) f =
      ap₂ (λ (b : Bool) (r : List A). put b x r) (f x (Memᴰ.head refl)) (keep_cong p q xs (λ y m. f y (Memᴰ.tail m)))

  pub any_cong : (p q : A → Bool) (xs : List A) → ((x : A) → Memᴰ x xs → p x ≡ q x) → any p xs ≡ any q xs
  unfolding any
  any_cong p q [] f = refl
  any_cong p q (x ∷ xs) f = ap₂ (λ (a b : Bool). a || b) (f x (Memᴰ.head refl)) (any_cong p q xs (λ y m. f y (Memᴰ.tail m)))

  pub any_map : {B : Type 0} (p : B → Bool) (f : A → B) (xs : List A) → any p (map f xs) ≡ any (λ x. p (f x)) xs
  unfolding any
  any_map p f [] = refl
  any_map p f (x ∷ xs) = ap (λ (b : Bool). p (f x) || b) (any_map p f xs)

  pub any_none : (p : A → Bool) (xs : List A) → ((x : A) → Memᴰ x xs → p x ≡ false) → any p xs ≡ false
  unfolding any
  any_none p [] f = refl
  any_none p (x ∷ xs) f = rw (f x (Memᴰ.head refl)) (any_none p xs (λ y m. f y (Memᴰ.tail m)))

-- ---- the n numbers from a on

pub from_mem : (a n : ℕ) {x : ℕ} → a ≤ x → x < a + n → Memᴰ x (from a n)
unfolding from
from_mem a zero h k = absurd (omega arith)
from_mem a (suc n) {x} h k = go (which (eqb x a)) (λ l. from_mem (suc a) n l (omega arith))
  where
    go : (eqb x a ≡ true) ⊎ (eqb x a ≡ false) → (suc a ≤ x → Memᴰ x (from (suc a) n)) → Memᴰ x (from a (suc n))
    go (inl e) ih = Memᴰ.head (eqb-true x a e)
    go (inr e) ih = let ne : x ≡ a → ⊥ = eqb-false x a e in Memᴰ.tail (ih (omega arith))

pub from_at : (a n : ℕ) {x : ℕ} → Memᴰ x (from a n) → (a ≤ x) × (x < a + n)
unfolding from
from_at a zero m = elim m [ ]
from_at a (suc n) {x} m = go (from_at (suc a) n) (Memᴰ.cases_cons m)
  where
    go : (Memᴰ x (from (suc a) n) → (suc a ≤ x) × (x < suc a + n)) → (x ≡ a) ⊎ Memᴰ x (from (suc a) n) → (a ≤ x) × (x < a + suc n)
    go ih (inl e) = omega arith
    go ih (inr k) = let h : (suc a ≤ x) × (x < suc a + n) = ih k in omega arith

-- ---- the first that passes

-- the first k with p, where none below it has p
pub first_at : (p : ℕ → Bool) (n k : ℕ) → k < n → ((j : ℕ) → j < k → p j ≡ false) → p k ≡ true → first p n ≡ k
unfolding first
first_at p zero k l f t = absurd (not-suc-le-zero l)
first_at p (suc n) zero l f t = rw t refl
first_at p (suc n) (suc k) l f t =
    rw (f zero (suc-le-suc zero-le)) (ap suc (first_at (λ j. p (suc j)) n k (le_of_suc-le-suc l) (λ j h. f (suc j) (suc-le-suc h)) t))

-- none below n has p
pub first_none : (p : ℕ → Bool) (n : ℕ) → ((j : ℕ) → j < n → p j ≡ false) → first p n ≡ n
unfolding first
first_none p zero f = refl
first_none p (suc n) f = rw (f zero (suc-le-suc zero-le)) (ap suc (first_none (λ j. p (suc j)) n (λ j h. f (suc j) (suc-le-suc h))))

pub any_below-at : (p : ℕ → Bool) (n k : ℕ) → k < n → ((j : ℕ) → j < k → p j ≡ false) → p k ≡ true → any_below p n ≡ true
unfolding any_below
any_below-at p n k l f t = rw (first_at p n k l f t) (lt-ltb k n l)

pub any_below_none : (p : ℕ → Bool) (n : ℕ) → ((j : ℕ) → j < n → p j ≡ false) → any_below p n ≡ false
unfolding any_below
any_below_none p n f = rw (first_none p n f) (le-ltb n n (omega arith))

-- where none passes, each fails
pub any_below_no : (p : ℕ → Bool) (n : ℕ) → any_below p n ≡ false → (j : ℕ) → j < n → p j ≡ false
unfolding any_below first
any_below_no p zero e j h = absurd (not-suc-le-zero h)
any_below_no p (suc n) e j h = go (which (p zero)) (any_below_no (λ k. p (suc k)) n) j h
  where
    go : (p zero ≡ true) ⊎ (p zero ≡ false) → (any_below (λ k. p (suc k)) n ≡ false → (j : ℕ) → j < n → p (suc j) ≡ false) → (j : ℕ)
        → j < suc n → p j ≡ false
    go (inl q) ih j h = absurd (not_both (lt-ltb 0 (suc n) (omega arith)) (rw q at e))
    go (inr q) ih zero h = q
    go (inr q) ih (suc j) h =
        ih (le-ltb (first (λ k. p (suc k)) n) n (le_of_suc-le-suc (ltb-false (suc (first (λ k. p (suc k)) n)) (suc n) (rw q at e)))) j
        (le_of_suc-le-suc h)

-- ---- elements and their indices

module _ {A : Type 0} where
  pub mem_index : (d : A) {x : A} {xs : List A} → Memᴰ x xs → (j : ℕ) × (j < length xs) × (get_or xs j d ≡ x)
  mem_index d (Memᴰ.head e) = (0, suc-le-suc zero-le, sym e)
  mem_index d (Memᴰ.tail m) = let r = mem_index d m in (suc r.0, suc-le-suc r.1, r.2)

  pub index_mem : (d : A) (xs : List A) (j : ℕ) → j < length xs → Memᴰ (get_or xs j d) xs
  index_mem d [] j h = absurd (not-suc-le-zero h)
  index_mem d (x ∷ xs) zero h = Memᴰ.head refl
  index_mem d (x ∷ xs) (suc j) h = Memᴰ.tail (index_mem d xs j (le_of_suc-le-suc h))

  -- inside a list no default is read
  pub get_or_inside : (l : List A) (i : ℕ) (d e : A) → i < length l → get_or l i d ≡ get_or l i e
  get_or_inside [] i d e h = absurd (not-suc-le-zero h)
  get_or_inside (x ∷ xs) zero d e h = refl
  get_or_inside (x ∷ xs) (suc i) d e h = get_or_inside xs i d e (le_of_suc-le-suc h)

  -- beyond it the default is
  pub get_or_beyond : (l : List A) (i : ℕ) (d : A) → length l ≤ i → get_or l i d ≡ d
  get_or_beyond [] i d h = refl
  get_or_beyond (x ∷ xs) zero d h = absurd (not-suc-le-zero h)
  get_or_beyond (x ∷ xs) (suc i) d h = get_or_beyond xs i d (le_of_suc-le-suc h)

  -- what is so of each element and of the default is so at every index
  pub get_or_from : (P : A → Type 0) (l : List A) (i : ℕ) (d : A) → P d → ((a : A) → Memᴰ a l → P a) → P (get_or l i d)
  get_or_from P [] i d p q = p
  get_or_from P (x ∷ xs) zero d p q = q x (Memᴰ.head refl)
  get_or_from P (x ∷ xs) (suc i) d p q = get_or_from P xs i d p (λ a m. q a (Memᴰ.tail m))

-- ---- maps over a list

pub map_id : {A : Type 0} (xs : List A) → map (λ x. x) xs ≡ xs
map_id [] = refl
map_id {A} (x ∷ xs) = ap {B = List A} (λ l. x ∷ l) (map_id xs)

module _ {A B : Type 0} where
  pub map_agree : (f g : A → B) (xs : List A) → ((x : A) → Memᴰ x xs → f x ≡ g x) → map f xs ≡ map g xs
  map_agree f g [] h = refl
  map_agree f g (x ∷ xs) h = ap₂ {C = List B} (λ y l. y ∷ l) (h x (Memᴰ.head refl)) (map_agree f g xs (λ y m. h y (Memᴰ.tail m)))

  -- what is so of each mapped element
  pub map_from : (P : B → Type 0) (f : A → B) (xs : List A) → ((x : A) → Memᴰ x xs → P (f x)) → (y : B) → Memᴰ y (map f xs) → P y
  map_from P f [] h y m = elim m [ ]
  map_from P f (x ∷ xs) h y (Memᴰ.head e) = rw e (h x (Memᴰ.head refl))
  map_from P f (x ∷ xs) h y (Memᴰ.tail m) = map_from P f xs (λ z k. h z (Memᴰ.tail k)) y m

-- ---- a list by its rule, and a loop that fills a list from the front with it, one store a turn

module _ {A : Type 0} where
  pub length-tab : (n : ℕ) (f : ℕ → A) → length (tab n f) ≡ n
  unfolding tab
  length-tab zero f = refl
  length-tab (suc n) f = ap suc (length-tab n (λ k. f (suc k)))

  pub get_or-tab : (d : A) (n : ℕ) (f : ℕ → A) (i : ℕ) → i < n → get_or (tab n f) i d ≡ f i
  unfolding tab
  get_or-tab d zero f i h = absurd (not-suc-le-zero h)
  get_or-tab d (suc n) f zero h = refl
  get_or-tab d (suc n) f (suc i) h = get_or-tab d n (λ k. f (suc k)) i (le_of_suc-le-suc h)

  -- what is so of each value and of the default is so of each element
  pub get_or_tab_default : (P : A → Type 0) (d : A) (n : ℕ) (f : ℕ → A) → P d → ((k : ℕ) → P (f k)) → (i : ℕ) → P (get_or (tab n f) i d)
  unfolding tab
  get_or_tab_default P d zero f p q i = p
  get_or_tab_default P d (suc n) f p q zero = q zero
  get_or_tab_default P d (suc n) f p q (suc i) = get_or_tab_default P d n (λ k. f (suc k)) p (λ k. q (suc k)) i

  pub tab-suc : (n : ℕ) (f : ℕ → A) → tab (suc n) f ≡ tab n f ++ (f n ∷ [])
  unfolding tab
  tab-suc zero f = refl
  tab-suc (suc n) f = ap (λ (l : List A). f zero ∷ l) (tab-suc n (λ k. f (suc k)))

  pub tab_cong : (n : ℕ) (f g : ℕ → A) → ((k : ℕ) → k < n → f k ≡ g k) → tab n f ≡ tab n g
  unfolding tab
  tab_cong zero f g h = refl
  tab_cong (suc n) f g h =
      ap₂ {C = List A} (λ x l. x ∷ l) (h zero (suc-le-suc zero-le))
      (tab_cong n (λ k. f (suc k)) (λ k. g (suc k)) (λ k l. h (suc k) (suc-le-suc l)))

  pub tab_none : (f : ℕ → A) (l : List A) → l ≡ tab 0 f ++ drop 0 l
  unfolding tab
  tab_none f l = refl

  -- one store more
  pub tab_more : (d : A) (f : ℕ → A) (l : List A) (i : ℕ) → i < length l
      → set (tab i f ++ drop i l) i (f i) ≡ tab (i + 1) f ++ drop (i + 1) l
  tab_more d f l i h =
      rw (add-one, drop-cons l i d, set_at (tab i f) (get_or l i d) (drop (suc i) l) (f i) i (length-tab i f), tab-suc)
      (sym (append_snoc (tab i f) (f i) (drop (suc i) l)))

  -- the whole is written
  pub tab_all : (f : ℕ → A) (l : List A) (i : ℕ) → length l ≤ i → tab i f ++ drop i l ≡ tab i f
  tab_all f l i h = rw (drop_of_length-le l h, append-nil)

-- ---- a count

pub bit_lt : (b : Bool) → bit b < 2
unfolding bit
bit_lt true = omega arith
bit_lt false = omega arith

-- of k numbers at most k pass
pub tally-le : (k : ℕ) (p : ℕ → Bool) → tally k p ≤ k
unfolding tally sum
tally-le zero p = zero-le
tally-le (suc k) p = omega (arith, tally-le k p, bit_lt (p (suc k)))

pub tally_cong : (k : ℕ) (p q : ℕ → Bool) → ((t : ℕ) → 0 < t → t ≤ k → p t ≡ q t) → tally k p ≡ tally k q
unfolding tally sum
tally_cong zero p q f = refl
tally_cong (suc k) p q f =
    ap₂ (λ (x : ℕ) (b : Bool). x + bit b) (tally_cong k p q (λ t l u. f t l (omega arith))) (f (suc k) (omega arith) (omega arith))

-- as many of 1 .. k are at most v as there are numbers up to both
pub tally_below : (k v : ℕ) → tally k (λ t. leb t v) ≡ min v k
unfolding tally sum bit
tally_below zero v = omega arith
tally_below (suc k) v = go (which (leb (suc k) v)) (tally_below k v)
  where
    go : (leb (suc k) v ≡ true) ⊎ (leb (suc k) v ≡ false) → tally k (λ t. leb t v) ≡ min v k
        → tally k (λ t. leb t v) + bit (leb (suc k) v) ≡ min v (suc k)
    go (inl e) ih = rw e (omega (arith, leb-true (suc k) v e))
    go (inr e) ih = rw e (omega (arith, leb-false (suc k) v e))
