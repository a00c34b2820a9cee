-- A part of a list that was lent and is back: what stands in it, before it and after it; a row in a list of rows; three parts that meet.
-- Assumes nothing.
use mathlib.Core.Path.{◌≡◌, refl, sym, ap, ap₂, ◌∙◌}
use mathlib.Core.List.{List, ◌∷◌, ◌++◌, append_assoc}
use Prim.Native.Nat.{ℕ, zero, suc, ◌+◌, ◌-◌, ◌*◌, ◌≤◌, ◌<◌}
use native.Mathlib.Nat.{zero-add, suc-add, mul-le-mul_right}
use native.Mathlib.Omega.{arith}
use lib.IntN.{sub_ℕ}
use lib.ListN.{length, get_or, take, drop, length-take, length-drop, length-append, get_or-append, replicate}
use lib.Seq.{ext_get_or, length-take-le, get_or-append-add, get_or-take, get_or-drop}
use borrow.Rule.Slice.PartMut.{mid_of, put_mid, post_of}
use Rattle.theory.specs.Lists.{tab}
use Rattle.theory.specs.Signals.{between}
use Rattle.theory.proofs.Lists.{length-tab, get_or-tab, tab_cong}
use Rattle.theory.proofs.Signals.{between_left, between_inside, between_right}
use Rattle.rows.specs.Rows.{widened}
use Rattle.rows.specs.Private.{part}

-- a list by its rule, in two
pub tab_split : {A : Type 0} (a k : ℕ) (f : ℕ → A) → tab (a + k) f ≡ tab a f ++ tab k (λ j. f (a + j))
unfolding tab
tab_split {A} zero k f = simp zero-add
tab_split {A} (suc a) k f = simp suc-add (ap (λ (l : List A). f 0 ∷ l) (tab_split a k (λ i. f (suc i))))

-- a list by its elements
pub part_whole : (s : List ℕ) → part (length s) 0 s ≡ s
unfolding part
part_whole s = ext_get_or 0 _ s (length-tab (length s) _) (λ i h. let z : i + 0 ≡ i = omega arith in
    get_or-tab 0 (length s) _ i (omega (arith, length-tab (length s) (λ j. get_or s (j + 0) 0))) ∙ ap (λ (k : ℕ). get_or s k 0) z)

pub replicated : (n v : ℕ) → replicate n v ≡ tab n (λ i. v)
unfolding tab
replicated zero v = refl
replicated (suc n) v = ap (λ (l : List ℕ). v ∷ l) (replicated n v)

-- ---- the k elements from a on

pub mid_length : (a k : ℕ) (xs : List ℕ) → a + k ≤ length xs → length (mid_of a k xs) ≡ k
mid_length a k xs h = simp (length-take, length-drop) (omega arith)

pub mid_at : (a k : ℕ) (xs : List ℕ) (i : ℕ) → i < k → get_or (mid_of a k xs) i 0 ≡ get_or xs (a + i) 0
mid_at a k xs i h = get_or-take k (drop a xs) i 0 h ∙ get_or-drop a xs i 0

-- they are ys now
module _ (a k : ℕ) (xs ys : List ℕ) (fits : a + k ≤ length xs) (full : length ys ≡ k) where
  head : length (take a xs) ≡ a
  head = length-take-le a xs (omega arith)

  -- past the head
  past : (i : ℕ) → get_or (put_mid a k xs ys) (a + i) 0 ≡ get_or (ys ++ post_of a k xs) i 0
  past i =
      ap (λ (n : ℕ). get_or (put_mid a k xs ys) (n + i) 0) (sym head)
      ∙ get_or-append-add (take a xs) (ys ++ post_of a k xs) i 0

  pub put-length : length (put_mid a k xs ys) ≡ length xs
  put-length = simp (length-append, length-take, length-drop, full) (omega arith)

  pub put-at : (i : ℕ) → i < k → get_or (put_mid a k xs ys) (a + i) 0 ≡ get_or ys i 0
  put-at i h = past i ∙ get_or-append ys (post_of a k xs) 0 i (omega arith)

  pub put-before : (i : ℕ) → i < a → get_or (put_mid a k xs ys) i 0 ≡ get_or xs i 0
  put-before i h = get_or-append (take a xs) (ys ++ post_of a k xs) 0 i (omega (arith, head)) ∙ get_or-take a xs i 0 h

  pub put-after : (i : ℕ) → a + k ≤ i → get_or (put_mid a k xs ys) i 0 ≡ get_or xs i 0
  put-after i h =
      let j = i - (a + k) in
      let e : i ≡ a + (length ys + j) = omega arith in
      ap (λ (n : ℕ). get_or (put_mid a k xs ys) n 0) e
      ∙ past (length ys + j)
      ∙ get_or-append-add ys (post_of a k xs) j 0
      ∙ get_or-drop k (drop a xs) j 0
      ∙ get_or-drop a xs (k + j) 0
      ∙ ap (λ (n : ℕ). get_or xs n 0) (omega arith)

-- ---- rows of m values one after the other in a list, and the r-th of n replaced

-- the r-th of n rows ends no later than the rows do
pub row_fits : (r n m : ℕ) → r < n → r * m + m ≤ n * m
row_fits r n m h =
    let e : r * m + m ≡ suc r * m = omega arith in
    rw e (mul-le-mul_right m h)

module _ (m r n : ℕ) (l new : List ℕ) (before : r < n) (room : n * m ≤ length l) (full : length new ≡ m) where
  pub row_length : length (put_mid (r * m) m l new) ≡ length l
  row_length = put-length (r * m) m l new (omega (arith, row_fits r n m before)) full

  pub row_here : (j : ℕ) → j < m → get_or (put_mid (r * m) m l new) (r * m + j) 0 ≡ get_or new j 0
  row_here j h = put-at (r * m) m l new (omega (arith, row_fits r n m before)) full j h

  pub row_under : (q j : ℕ) → q < r → j < m → get_or (put_mid (r * m) m l new) (q * m + j) 0 ≡ get_or l (q * m + j) 0
  row_under q j a h =
      put-before (r * m) m l new (omega (arith, row_fits r n m before)) full (q * m + j) (omega (arith, row_fits q r m a))

  pub row_over : (q j : ℕ) → r < q → get_or (put_mid (r * m) m l new) (q * m + j) 0 ≡ get_or l (q * m + j) 0
  row_over q j a = put-after (r * m) m l new (omega (arith, row_fits r n m before)) full (q * m + j) (omega (arith, row_fits r q m a))

-- ---- a list in the middle of a longer one, with l and r on either side

module _ (k l r : ℕ) (s : List ℕ) where
  -- what stands at index i
  at : ℕ → ℕ
  at i = between l r s (sub_ℕ i k)

  -- in three parts
  widened_parts : widened k l r s ≡ tab k (λ i. l) ++ part (length s) 0 s ++ tab k (λ i. r)
  unfolding widened part at
  widened_parts =
      let n = length s in
      let q : n + (k + k) ≡ k + n + k = omega arith in
      ap (λ (m : ℕ). tab m at) q
      ∙ tab_split (k + n) k at
      ∙ ap (λ (x : List ℕ). x ++ tab k (λ j. at (k + n + j))) (tab_split k n at)
      ∙ ap₂ (λ (x y : List ℕ). x ++ y)
      (ap₂ (λ (x y : List ℕ). x ++ y) (tab_cong k _ _ (λ j h. between_left l r s j k h)) (tab_cong n _ _ middle))
      (tab_cong k _ _ (λ j h. between_right l r s (k + n + j) k (omega arith)))
    where
      middle : (j : ℕ) → j < length s → at (k + j) ≡ get_or s (j + 0) 0
      middle j h = between_inside l r s 0 (k + j) k (omega arith) (omega arith) ∙ ap (λ (i : ℕ). get_or s i 0) (omega arith)

  -- as three fills make it
  pub widened_by : replicate k l ++ (s ++ replicate k r) ≡ widened k l r s
  widened_by =
      sym (append_assoc (replicate k l) s (replicate k r))
      ∙ ap₂ (λ (x y : List ℕ). x ++ y) (ap₂ (λ (x y : List ℕ). x ++ y) (replicated k l) (sym (part_whole s))) (replicated k r)
      ∙ sym widened_parts
