-- What a change makes of a row. Beyond the row stands l to the left and r to the right.
use Rattle.std.specs.Prelude.{Bool, true, false, not, ◌&&◌, List, map, ℕ, leb, ltb, ℤ, pos, neg_ℤ, ◌+ℤ◌, ◌-ℤ◌, length}
use Rattle.limits.specs.Limits.{width}
use Rattle.theory.specs.Lists.{tab}
use Rattle.theory.specs.Sets.{is_set}
use Rattle.theory.specs.Orders.{counts}
use Rattle.theory.specs.Ranks.{Pick, the_smallest, the_largest, the_kth, pick}
use Rattle.theory.specs.Signals.{between, window, offsets, size, leftmost}
use Rattle.rows.specs.declared.Change.{Change}
use Rattle.rows.specs.declared.Change.TheVariants.{Erode, Dilate, Open, Close, Rank}
use Rattle.rows.specs.Sizes.{opening, longest_row}
use Rattle.rows.specs.Rows.{is_wider}

-- at each index of a row, what a pick takes of the values at some offsets from it
unfoldable pub picked : Pick → List ℤ → ℕ → ℕ → List ℕ → List ℕ
picked p bs l r row = tab (length row) (λ j. pick counts p 0 (λ b. between l r row (pos j +ℤ b)) bs)

-- the smallest over some offsets, or where high the largest over the mirrored ones
unfoldable pub stretched : Bool → List ℤ → ℕ → ℕ → List ℕ → List ℕ
stretched false bs l r row = picked the_smallest bs l r row
stretched true bs l r row = picked the_largest (map neg_ℤ bs) l r row

-- some offsets, moved so that the least is 0: an opening or a closing by them is the same, and its inside reaches no further than it does
unfoldable pub from_least : List ℤ → List ℤ
from_least bs = map (λ b. b -ℤ leftmost bs) bs

-- the first part of an opening, or where high of a closing; and both parts
abbrev pub half : Bool → ℕ → ℕ → ℕ → List ℕ → List ℕ
half high B l r row = stretched high (from_least (offsets window B)) l r row

abbrev pub both : Bool → ℕ → ℕ → ℕ → List ℕ → List ℕ
both high B l r row = stretched (not high) (from_least (offsets window B)) l r (half high B l r row)

-- what the last part of a change reads
abbrev pub last_read : Change → ℕ → ℕ → List ℕ → List ℕ
last_read (Erode B) l r row = row
last_read (Dilate B) l r row = row
last_read (Open B) l r row = half false B l r row
last_read (Close B) l r row = half true B l r row
last_read (Rank k B) l r row = row

-- what a change makes of a row
abbrev pub after_change : Change → ℕ → ℕ → List ℕ → List ℕ
after_change (Erode B) l r row = stretched false (offsets window B) l r row
after_change (Dilate B) l r row = stretched true (offsets window B) l r row
after_change (Open B) l r row = both false B l r row
after_change (Close B) l r row = both true B l r row
after_change (Rank k B) l r row = picked (the_kth k) (offsets window B) l r row

-- ---- what it leaves: where it is not sound or the lengths do not fit, what was there

-- a change's set is one, and its rank is 1 to the set's size
unfoldable pub is_sound : Change → Bool
is_sound (Erode B) = is_set width B
is_sound (Dilate B) = is_set width B
is_sound (Open B) = is_set width B
is_sound (Close B) = is_set width B
is_sound (Rank k B) = is_set width B && ltb 0 k && leb k (size window B)

-- a change is sound, a row is not too long, and the room is for it widened
unfoldable pub can_change : Change → List ℕ → List ℕ → Bool
can_change by row room = is_sound by && leb (length row) longest_row && is_wider opening row room
