-- The rule of the twenty tables, by one computed test: they are the 8-bit tables that are positive on three samples, every one, ascending.
-- Assumes nothing.
use mathlib.Core.Path.{◌≡◌, refl, sym, subst}
use mathlib.Core.Bool.{Bool, not}
use mathlib.Core.List.{List, Memᴰ}
use Prim.Native.Nat.{ℕ, ◌^◌, ◌<◌, zero-le}
use native.Mathlib.Omega.{arith}
use lib.ListN.{length, get_or}
use borrow.Author.Tests.{not-true}
use Rattle.limits.specs.Limits.{presets}
use Rattle.theory.specs.Lists.{any, keep, from, first, any_below}
use Rattle.theory.specs.Sets.{has, with_position}
use Rattle.theory.specs.Forms.{Positive}
use Rattle.theory.specs.Tables.{slips}
use Rattle.theory.proofs.Lists.{keep_mem, keep_at, from_mem, index_mem}
use Rattle.theory.proofs.Keeps.{keep_rises}
use Rattle.theory.proofs.Tables.{fine_positive, positive_fine}
use Rattle.presets.specs.Presets.{three, three_patterns, preset_tables}

-- no pattern of three samples on which one more turns 1 to 0
steady : ℕ → Bool
steady t = not (any_below (slips three (has t)) three_patterns)

-- there are so many 8-bit tables
abbrev pub eight_bit_tables : ℕ
eight_bit_tables = 2 ^ three_patterns

-- the test, over all of them
rule : keep steady (from 0 eight_bit_tables) ≡ preset_tables
unfolding preset_tables steady keep from any_below first slips any has with_position
rule = refl

-- ---- what it says

-- the tables ascend
pub ascending : (i j : ℕ) → i < j → j < presets → get_or preset_tables i 0 < get_or preset_tables j 0
unfolding preset_tables
ascending i j l h = subst (λ (ts : List ℕ). j < length ts → get_or ts i 0 < get_or ts j 0) rule (keep_rises steady 0 eight_bit_tables i j l) h

-- each is positive on three samples
pub member_positive : (t : ℕ) → Memᴰ t preset_tables → Positive three (has t)
unfolding steady
member_positive t m =
    let kept = subst (λ (ts : List ℕ). Memᴰ t ts) (sym rule) m in
    fine_positive three (has t) (not-true _ (keep_at steady (from 0 eight_bit_tables) kept).1)

pub entry_positive : (i : ℕ) → i < presets → Positive three (has (get_or preset_tables i 0))
unfolding preset_tables
entry_positive i l = member_positive _ (index_mem 0 preset_tables i l)

-- every positive one stands there
pub complete : (t : ℕ) → t < eight_bit_tables → Positive three (has t) → Memᴰ t preset_tables
unfolding steady
complete t l pos =
    subst (λ (ts : List ℕ). Memᴰ t ts) rule
    (keep_mem steady (from_mem 0 eight_bit_tables zero-le (omega arith)) (rw (positive_fine three (has t) pos)))
