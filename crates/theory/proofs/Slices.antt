-- Parts of a list: runs of stores, which are one where they meet and leave nothing of a list that they cover, and parts that are read.
-- Assumes nothing.
use mathlib.Core.Path.{◌≡◌, sym, ap, ◌∙◌}
use mathlib.Core.List.{List, [], ◌∷◌, ◌++◌, append-nil}
use Prim.Native.Nat.{ℕ, zero, suc, ◌+◌, min}
use native.Mathlib.Nat.{add-zero, zero-min, min-zero, suc-min-suc}
use native.Mathlib.Omega.{arith}
use lib.ListN.{length, take, drop, set, length-append, drop_of_length-le}
use lib.Seq.{sets, sets-eq, take-add, drop-drop}
use Rattle.theory.specs.Lists.{tab}

-- ---- runs of stores

module _ {A : Type 0} where
  pub sets_append : (l : List A) (i : ℕ) (vs ws : List A) → sets (sets l i vs) (i + length vs) ws ≡ sets l i (vs ++ ws)
  sets_append l i [] ws = ap (λ (k : ℕ). sets l k ws) (add-zero i)
  sets_append l i (v ∷ vs) ws =
      let e : i + suc (length vs) ≡ suc i + length vs = omega arith in
      ap (λ (k : ℕ). sets (sets (set l i v) (suc i) vs) k ws) e ∙ sets_append (set l i v) (suc i) vs ws

  -- the same, where the seam is known only by an equation
  pub sets_next : (l : List A) (i k : ℕ) (vs ws : List A) → i + length vs ≡ k → sets (sets l i vs) k ws ≡ sets l i (vs ++ ws)
  sets_next l i k vs ws e = rw (← e) (sets_append l i vs ws)

  pub sets_three : (l : List A) (i j k : ℕ) (us vs ws : List A) → i + length us ≡ j → j + length vs ≡ k
      → sets (sets (sets l i us) j vs) k ws ≡ sets l i (us ++ vs ++ ws)
  sets_three l i j k us vs ws p q =
      ap (λ (m : List A). sets m k ws) (sets_next l i j us vs p) ∙ sets_next l i k (us ++ vs) ws (omega (arith, length-append us vs))

  pub sets_whole : (l vs : List A) → length vs ≡ length l → sets l 0 vs ≡ vs
  sets_whole l vs e = sets-eq vs l 0 (omega arith) ∙ rw (drop_of_length-le l {i = 0 + length vs} (omega arith)) (append-nil vs)

-- ---- parts that are read

-- two parts that meet are one
pub parts : {A : Type 0} (l : List A) (i j m n : ℕ) → i + m ≡ j → take m (drop i l) ++ take n (drop j l) ≡ take (m + n) (drop i l)
parts l i j m n e = rw (← e, ← drop-drop m i l) (sym (take-add m n (drop i l)))

-- the front of a list by its rule
pub take-tab : {A : Type 0} (k n : ℕ) (f : ℕ → A) → take k (tab n f) ≡ tab (min n k) f
unfolding tab
take-tab zero n f = rw (min-zero n)
take-tab (suc k) zero f = rw (zero-min (suc k))
take-tab (suc k) (suc n) f = rw (suc-min-suc n k, take-tab k n (λ i. f (suc i)))
