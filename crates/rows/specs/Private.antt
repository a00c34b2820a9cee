-- Only private contracts cite this: sizes, parts of rows, the shifts at which a set is read in a row that is widened, and rows that fall at
-- each index.
use Rattle.std.specs.Prelude.{◌≡◌, Bool, true, false, cond, List, map, ℕ, suc, ◌+◌, ◌-◌, ◌*◌, ◌≤◌, ◌<◌, ℤ, neg_ℤ, length, get_or}
use Rattle.limits.specs.Limits.{reach, width}
use Rattle.theory.specs.Lists.{tab}
use Rattle.theory.specs.Sets.{positions, is_set}
use Rattle.theory.specs.Orders.{counts}
use Rattle.theory.specs.Ranks.{Pick, the_smallest, the_largest, insert, falling, pick}
use Rattle.theory.specs.Signals.{window}
use Rattle.rows.specs.Sizes.{opening, longest_row}
use Rattle.rows.specs.declared.Change.{Change}
use Rattle.rows.specs.Rows.{is_wider, widened}
use Rattle.rows.specs.Changes.{is_sound, last_read, after_change, half, both}

-- ---- sizes; src/lib.rt has the same numbers

-- a row has so many values more than its piece of the scan: the reach on either side
abbrev pub margin : ℕ
margin = reach + reach

-- a row is of a piece of at most so many samples
abbrev pub piece_samples : ℕ
piece_samples = longest_row - margin

-- so many of them are to be filled, the others being the reach on either side
abbrev pub piece : ℕ
piece = piece_samples - 2 * reach

-- the room for the longest row, widened by an opening
abbrev pub longest_room : ℕ
longest_room = longest_row + 2 * opening

-- the room for a row to each position of a set, sorted
abbrev pub sorted_rows : ℕ
sorted_rows = width * longest_row

-- ---- parts of a row, and two values

-- n values of src, from an index on
unfoldable pub part : ℕ → ℕ → List ℕ → List ℕ
part n from src = tab n (λ j. get_or src (j + from) 0)

-- ---- a row and a set

-- the smallest, or the largest
abbrev pub extreme : Bool → Pick
extreme false = the_smallest
extreme true = the_largest

-- some offsets as they are, or mirrored
abbrev pub turned : Bool → List ℤ → List ℤ
turned false bs = bs
turned true bs = map neg_ℤ bs

-- a sound change
abbrev pub Sound : Change → Type 0
Sound by = is_sound by ≡ true

-- a set of positions, and room for the row widened by an opening
pub record Roomy (row room : List ℕ) (B : ℕ) : Type 0 where
  pub wide : is_wider opening row room ≡ true
  pub set : is_set width B ≡ true

-- a row is changed, and the room has what was read last, widened
pub record Applied (by : Change) (l r : ℕ) (row row' room' : List ℕ) : Type 0 where
  pub result : row' ≡ after_change by l r row
  pub read : room' ≡ widened opening l r (last_read by l r row)

-- the same of an opening, or where high a closing
pub record Opened (high : Bool) (B l r : ℕ) (row row' room' : List ℕ) : Type 0 where
  pub result : row' ≡ both high B l r row
  pub read : room' ≡ widened opening l r (half high B l r row)

-- the shift at which the column c is read where the column centre stands for offset 0: c further on, or mirrored, c further back
unfoldable pub shift_of : Bool → ℕ → ℕ → ℕ
shift_of mirrored centre c = cond mirrored (opening + centre - c) (opening + c - centre)

-- the shifts at which a set is read
unfoldable pub shifts_of : Bool → ℕ → ℕ → List ℕ
shifts_of mirrored centre B = map (λ i. shift_of mirrored centre (window.column i)) (positions width B)

-- there are shifts, and each stays in the room, from each index of a row of n values
pub record Reaching (n : ℕ) (room shifts : List ℕ) : Type 0 where
  pub nonempty : 0 < length shifts
  pub wide : length room ≡ n + (opening + opening)
  pub near : (t : ℕ) → t < length shifts → get_or shifts t 0 ≤ opening + opening

-- at each of n indices, what a pick takes of the values of w that the shifts reach
unfoldable pub around : Pick → List ℕ → ℕ → List ℕ → List ℕ
around p cs n w = tab n (λ j. pick counts p 0 (λ c. get_or w (j + c) 0) cs)

-- ---- rows of m values one after the other in a list

-- index j of the n rows from the r-th on
unfoldable pub down : ℕ → ℕ → ℕ → List ℕ → ℕ → List ℕ
down m r n l j = tab n (λ q. get_or l ((r + q) * m + j) 0)

-- at each index, x was put into the first n rows
abbrev pub Inserted : ℕ → ℕ → List ℕ → List ℕ → List ℕ → Type 0
Inserted m n old x new = (j : ℕ) → j < m → down m 0 (suc n) new j ≡ insert counts (get_or x j 0) (down m 0 n old j)

-- at each index, as many rows as there are shifts have what these reach, falling
abbrev pub Sorted : ℕ → List ℕ → List ℕ → List ℕ → Type 0
Sorted m shifts room rows = (j : ℕ) → j < m → down m 0 (length shifts) rows j ≡ falling counts (λ c. get_or room (j + c) 0) shifts
