-- Columns of any fair window: the position that stands in one is found, and a set that stands in none has no offsets. Then the columns
-- of the one window, as the contracts name them, and the least column of a set.
-- Assumes nothing.
use mathlib.Core.Path.{◌≡◌, refl, sym, ap, ◌∙◌}
use mathlib.Core.Bool.{Bool, true, false}
use mathlib.Core.Logic.{◌⊎◌, inl, inr}
use mathlib.Core.List.{List, [], ◌∷◌, map, Memᴰ}
use Prim.Native.Nat.{ℕ, ◌+◌, ◌≤◌, ◌<◌, min}
use native.Mathlib.Nat.{zero-add}
use native.Mathlib.Omega.{arith}
use lib.Dec.{eqb}
use lib.IntN.{sub_ℕ}
use borrow.Author.Tests.{eq-eqb, ne_eqb}
use Rattle.std.specs.Prelude.{Option, MatchOption, find}
use Rattle.limits.specs.Limits.{reach, width}
use Rattle.theory.specs.Lists.{first}
use Rattle.theory.specs.Sets.{has, positions}
use Rattle.theory.specs.Signals.{Window, wide, offset, offsets, window, leftmost}
use Rattle.theory.proofs.Tests.{not_both}
use Rattle.theory.proofs.Lists.{first_at, first_none}
use Rattle.theory.proofs.Differences.{side}
use Rattle.theory.proofs.Sets.{positions-at}
use Rattle.theory.proofs.Offsets.{leftmost_column}
use Rattle.theory.proofs.Signals.{Fair, window_fair}
use Rattle.windows.specs.Columns.{position_in}
use Rattle.windows.specs.Private.{stands, columns}
use Rattle.windows.proofs.Searches.{first_passes, first_before, find_from, match_map}

-- the least column in which a position of the set stands; the width where none does
abbrev pub least_column : ℕ → ℕ
least_column B = first (λ k. has B (position_in k)) width

-- ---- any fair window

module _ (W : Window) (fair : Fair W) where
  -- the search for the position in a column finds it
  pub position_found : (k : ℕ) → k < wide W → first (λ i. eqb (W.column i) k) (wide W) ≡ fair.position k
  position_found k h =
      first_at (λ i. eqb (W.column i) k) (wide W) (fair.position k) (fair.position_lt k h)
      (λ i l. ne_eqb (W.column i) k (λ e. let same = here i l e in omega arith))
      (eq-eqb _ _ (fair.column_position k h))
    where
      here : (i : ℕ) → i < fair.position k → W.column i ≡ k → i ≡ fair.position k
      here i l e = sym (fair.position_column i (omega (arith, fair.position_lt k h))) ∙ ap fair.position e

  -- a position of the set does not stand in a column that lacks one
  there : (B i : ℕ) → (i < wide W) × (has B i ≡ true) → has B (fair.position (W.column i)) ≡ false → ⊥
  there B i m e = not_both m.1 (rw (fair.position_column i m.0) at e)

  -- a set that stands in no column has no offsets
  pub no_column : (B : ℕ) → ((k : ℕ) → k < wide W → has B (fair.position k) ≡ false) → offsets W B ≡ []
  unfolding offsets
  no_column B none = go (positions (wide W) B) (λ i m. positions-at (wide W) B m)
    where
      go : (is : List ℕ) → ((i : ℕ) → Memᴰ i is → (i < wide W) × (has B i ≡ true)) → map (offset W) is ≡ []
      go [] each = refl
      go (i ∷ is) each =
          let m = each i (Memᴰ.head refl) in
          absurd (there B i m (none (W.column i) (fair.column_lt i m.0)))

-- ---- the one window

pub position_is : (k : ℕ) → k < width → position_in k ≡ window_fair.position k
unfolding position_in wide window
position_is k h = position_found window window_fair k h

-- no position stands beyond the columns
pub position_capped : (k : ℕ) → min k width ≡ position_in k
unfolding position_in window window_fair
position_capped k = go (side k width)
  where
    go : (k < width) ⊎ (width ≤ k) → min k width ≡ position_in k
    go (inl l) = let e : min k width ≡ k = omega arith in e ∙ sym (position_is k l)
    go (inr h) = let e : min k width ≡ width = omega arith in e ∙ sym (first_none _ width (λ i l. ne_eqb i k (λ e. omega arith)))

-- whether a set stands in column k, by the window's own position
pub stands_in : (B k : ℕ) {b : Bool} → k < width → stands B k ≡ b → has B (window_fair.position k) ≡ b
unfolding stands
stands_in B k h e = rw (position_is k h) at e

module _ (B : ℕ) where
  -- the least offset is that of the least column
  pub least_there : least_column B < width → leftmost (offsets window B) ≡ sub_ℕ (least_column B) reach
  unfolding wide window stands
  least_there h =
      leftmost_column window window_fair B (least_column B) h
      (stands_in B (least_column B) h (first_passes (stands B) width h))
      (λ j l. stands_in B j (omega arith) (first_before (stands B) width j l))

  -- where there is none, the set has no offsets
  pub least_none : width ≤ least_column B → offsets window B ≡ []
  unfolding wide window stands
  least_none h = no_column window window_fair B (λ k l. stands_in B k l (first_before (stands B) width k (omega arith)))

  -- and it is the column that is found
  pub least_found : {o : Option ℕ} → o ≡ find (stands B) columns
      → MatchOption o (least_column B ≡ width) (λ k. (k ≡ least_column B) × (k < width))
  unfolding stands
  least_found e =
      rw e (match_map (find (stands B) columns) (λ none. none) (λ k at. let e = at.0 ∙ zero-add (least_column B) in (e, rw e at.1)) (find_from (stands B) (stands B) 0 width (λ k. let e : k ≡ 0 + k = omega arith in ap (stands B) e)))
