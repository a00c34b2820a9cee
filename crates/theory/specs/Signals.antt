-- Signals: endless signals over ℤ, a list made endless by an ends rule, the window through which a form sees one, and the filter of a scan.
use Rattle.std.specs.Prelude.{Bool, ◌&&◌, List, map, ℕ, suc, ◌+◌, ◌-◌, ◌≤◌, length, get_or, ℤ, pos, negsuc, ◌+ℤ◌, ◌-ℤ◌}
use Rattle.std.proofs.Math.IntN.{sub_ℕ}
use Rattle.std.specs.Int.Signed.{le_z}
use Rattle.limits.specs.Limits.{reach, width, most_samples, top}
use Rattle.theory.specs.Lists.{any, tab}
use Rattle.theory.specs.Sets.{positions}
use Rattle.theory.specs.Orders.{largest, smallest}
use Rattle.theory.specs.Forms.{levels}

-- ---- beyond the ends of a list

-- an ends rule: the first and the last value are repeated without end, or there is nothing outside
pub data Ends : Type 0 where
  held : Ends
  zeros : Ends

module _ {A : Type 0} where
  -- the list with l to its left and r to its right, without end
  unfoldable pub between : A → A → List A → ℤ → A
  between l r s (pos n) = get_or s n r
  between l r s (negsuc n) = l

  -- the endless signal of a list; z stands for nothing
  unfoldable pub endless : A → Ends → List A → ℤ → A
  endless z held s = between (get_or s 0 z) (get_or s (length s - 1) z) s
  endless z zeros s = between z z s

-- ---- windows

-- a window on a row: each of its positions stands in a column, and column k stands for the offset k - far
pub record Window : Type 0 where
  pub far : ℕ
  pub column : ℕ → ℕ

module _ (W : Window) where
  -- one position to each of the offsets -far .. far
  unfoldable pub wide : ℕ
  wide = suc (W.far + W.far)

  -- the offset that a position stands for
  unfoldable pub offset : ℕ → ℤ
  offset i = sub_ℕ (W.column i) W.far

  -- the offsets of a set, and how many they are
  unfoldable pub offsets : ℕ → List ℤ
  offsets B = map offset (positions wide B)

  unfoldable pub size : ℕ → ℕ
  size B = length (positions wide B)

  -- what the window sees at x
  unfoldable pub seen : {A : Type 0} → (ℤ → A) → ℤ → ℕ → A
  seen g x i = g (x +ℤ offset i)

-- the least and the greatest of some offsets; 0 of none
unfoldable pub leftmost : List ℤ → ℤ
leftmost bs = smallest le_z (pos 0) (λ b. b) bs

unfoldable pub rightmost : List ℤ → ℤ
rightmost bs = largest le_z (pos 0) (λ b. b) bs

-- the 0/1 signal that is 1 exactly at the offsets of v: d is one of them, at most it and at least it
unfoldable pub spread : Window → ℕ → ℤ → Bool
spread W v d = any (λ b. le_z b d && le_z d b) (offsets W v)

-- offset d is worth 2 ^ (d + 4): the positions stand in the order of their offsets
unfoldable pub window : Window
window = record { far = reach; column = λ i. i }

-- ---- scans of counts

-- a scan: 1 to 16,384 samples, each 0 to 65,535
pub record Scan (s : List ℕ) : Type 0 where
  pub nonempty : 1 ≤ length s
  pub short : length s ≤ most_samples
  pub small : (i : ℕ) → get_or s i 0 ≤ top

module _ (ends : Ends) where
  -- demand 2: the filter of a form at x, the number of levels 1 .. 65,535 whose cut makes the form's function 1 around x
  unfoldable pub filtered_at : List ℕ → List ℕ → ℕ → ℕ
  filtered_at form s x = levels width top form (seen window (endless 0 ends s) (pos x))

  -- the filter at each sample
  unfoldable pub cleaned : List ℕ → List ℕ → List ℕ
  cleaned form s = tab (length s) (filtered_at form s)

  -- raw minus cleaned at x
  unfoldable pub residue_at : List ℕ → List ℕ → ℕ → ℤ
  residue_at form s x = pos (get_or s x 0) -ℤ pos (filtered_at form s x)
