-- What a change makes of a plan's row is the row of the plan that it leaves. An opening or a closing is done by its offsets moved so that
-- the least is 0: its inside then fits the window where the whole does.
-- Assumes nothing.
use mathlib.Core.Path.{◌≡◌, refl, sym, ap, ◌∙◌}
use mathlib.Core.Bool.{Bool, true, false, not, ◌&&◌}
use mathlib.Core.List.{List, [], ◌∷◌, map, map-map}
use Prim.Native.Nat.{ℕ, ◌+◌, ◌≤◌, ◌<◌}
use native.Mathlib.Omega.{arith}
use lib.ListN.{length, length-map}
use lib.IntN.{ℤ, pos, neg_ℤ, sub_ℕ, ◌+ℤ◌, ◌-ℤ◌, +ℤ_assoc, +ℤ_comm, +ℤ_idl, +ℤ_invr, neg_ℤ-+ℤ, neg_ℤ-neg_ℤ}
use lib.Signed.{le_z}
use lib.Dec.{leb, ltb}
use borrow.Author.Tests.{leb-true, ltb-true}
use Rattle.limits.specs.Limits.{width, patterns, reach}
use Rattle.theory.specs.Sets.{positions, is_set}
use Rattle.theory.specs.Orders.{counts}
use Rattle.theory.specs.Ranks.{Pick, the_smallest, the_largest, the_kth, pick}
use Rattle.theory.specs.Signals.{Window, window, wide, offset, offsets, size, between, leftmost, rightmost}
use Rattle.theory.proofs.Plans.{Plan, near, meaning, lo, hi}
use Rattle.theory.proofs.Tests.{and_left, and_right}
use Rattle.theory.proofs.Lists.{mem_index, tab_cong}
use Rattle.theory.proofs.Sets.{positions_nonempty}
use Rattle.theory.proofs.Orders.{ints_lawful, leq_refl}
use Rattle.theory.proofs.Ints.{ints_strict, le_z_add}
use Rattle.theory.proofs.Ranks.{pick_agree, pick_map, keeps_pick}
use Rattle.theory.proofs.Offsets.{leftmost_neg, rightmost_neg}
use Rattle.theory.proofs.Truth.{Fits}
use Rattle.theory.proofs.Steps.{moved-opening, moved_closing}
use Rattle.rows.specs.declared.Change.{Change}
use Rattle.rows.specs.declared.Change.TheVariants.{Erode, Dilate, Open, Close, Rank}
use Rattle.rows.specs.Sizes.{opening, longest_row}
use Rattle.rows.specs.Private.{margin, extreme, turned, Sound}
use Rattle.rows.specs.Rows.{is_wider}
use Rattle.rows.specs.Changes.{stretched, from_least, after_change, is_sound, can_change}
use Rattle.rows.proofs.Rows.{row_of, picked_row}

-- ---- plans

-- the smallest over some offsets, or the largest over the mirrored ones
abbrev pub stretched_plan : Bool → List ℤ → Plan → Plan
stretched_plan high bs e = near (extreme high) (turned high bs) e

-- both, one after the other
abbrev both_plan : Bool → List ℤ → Plan → Plan
both_plan high bs e = stretched_plan (not high) bs (stretched_plan high bs e)

-- what a change makes of a plan
abbrev pub plan_after : Change → Plan → Plan
plan_after (Erode B) e = stretched_plan false (offsets window B) e
plan_after (Dilate B) e = stretched_plan true (offsets window B) e
plan_after (Open B) e = both_plan false (offsets window B) e
plan_after (Close B) e = both_plan true (offsets window B) e
plan_after (Rank k B) e = near (the_kth k) (offsets window B) e

-- ---- the inside of an opening or a closing

-- the end of some offsets moves with them
moved-end : (p : Pick) (c b : ℤ) (bs : List ℤ)
    → pick le_z p (pos 0) (λ z. z) (map (λ z. z +ℤ c) (b ∷ bs)) ≡ pick le_z p (pos 0) (λ z. z) (b ∷ bs) +ℤ c
moved-end p c b bs =
    pick_map le_z (λ z. z +ℤ c) p (pos 0) (λ z. z) (b ∷ bs)
    ∙ pick_agree le_z p (pos 0) (pos 0 +ℤ c) (λ z. z +ℤ c) (λ z. z +ℤ c) b bs (λ z m. refl)
    ∙ sym (keeps_pick ints_lawful le_z ints_strict (λ z. z +ℤ c) up p (pos 0) (λ z. z) (b ∷ bs))
  where
    up : (y z : ℤ) → le_z y z ≡ true → le_z (y +ℤ c) (z +ℤ c) ≡ true
    up y z h = le_z_add y z c c h (leq_refl ints_lawful c)

swap : (x y z : ℤ) → (x +ℤ y) +ℤ z ≡ y +ℤ (x +ℤ z)
swap x y z = ap (λ (w : ℤ). w +ℤ z) (+ℤ_comm x y) ∙ +ℤ_assoc y x z

module _ (b : ℤ) (bs : List ℤ) where
  some_moved : 0 < length (from_least (b ∷ bs))
  unfolding from_least
  some_moved = omega arith

  -- the moved offsets go from 0 to the span
  least_moved : leftmost (from_least (b ∷ bs)) ≡ pos 0
  unfolding leftmost from_least pick
  least_moved = moved-end the_smallest (neg_ℤ (leftmost (b ∷ bs))) b bs ∙ +ℤ_invr (leftmost (b ∷ bs))

  greatest_moved : rightmost (from_least (b ∷ bs)) ≡ rightmost (b ∷ bs) -ℤ leftmost (b ∷ bs)
  unfolding rightmost from_least pick
  greatest_moved = moved-end the_largest (neg_ℤ (leftmost (b ∷ bs))) b bs

  -- mirrored, from the span below 0 to 0
  least_mirrored : leftmost (map neg_ℤ (from_least (b ∷ bs))) ≡ neg_ℤ (rightmost (b ∷ bs)) +ℤ leftmost (b ∷ bs)
  least_mirrored =
      leftmost_neg (from_least (b ∷ bs))
      ∙ ap neg_ℤ greatest_moved
      ∙ neg_ℤ-+ℤ (rightmost (b ∷ bs)) (neg_ℤ (leftmost (b ∷ bs)))
      ∙ ap (λ (z : ℤ). neg_ℤ (rightmost (b ∷ bs)) +ℤ z) (neg_ℤ-neg_ℤ (leftmost (b ∷ bs)))

  greatest_mirrored : rightmost (map neg_ℤ (from_least (b ∷ bs))) ≡ pos 0
  greatest_mirrored = rightmost_neg (from_least (b ∷ bs)) ∙ ap neg_ℤ least_moved

  -- an opening's inside has the left end of what is opened and the right end of the whole; a closing's inside the other way round
  inside_fits : (W : Window) (high : Bool) (e : Plan) → Fits W e → Fits W (both_plan high (b ∷ bs) e)
      → Fits W (stretched_plan high (from_least (b ∷ bs)) e)
  unfolding lo hi
  inside_fits W false e ok whole = record {
    left_ok = rw (least_moved, +ℤ_idl (lo e)) ok.left_ok;
    right_ok = rw (greatest_moved, swap (rightmost (b ∷ bs)) (neg_ℤ (leftmost (b ∷ bs))) (hi e))
        (rw (rightmost_neg (b ∷ bs)) at whole.right_ok);
  }
  inside_fits W true e ok whole = record {
    left_ok = rw (least_mirrored, swap (neg_ℤ (rightmost (b ∷ bs))) (leftmost (b ∷ bs)) (lo e))
        (rw (leftmost_neg (b ∷ bs)) at whole.left_ok);
    right_ok = rw (greatest_mirrored, +ℤ_idl (hi e)) ok.right_ok;
  }

  -- by the moved offsets an opening or a closing is the same
  moved-both : (high : Bool) (e : Plan) (g : ℤ → ℕ) (x : ℤ)
      → meaning counts (both_plan high (from_least (b ∷ bs)) e) g x ≡ meaning counts (both_plan high (b ∷ bs) e) g x
  unfolding from_least
  moved-both false e g x =
      let c = neg_ℤ (leftmost (b ∷ bs)) in
      rw (map-map neg_ℤ (λ z. z +ℤ c) bs) (moved-opening counts e g c b bs x)
  moved-both true e g x =
      let c = neg_ℤ (leftmost (b ∷ bs)) in
      rw (map-map neg_ℤ (λ z. z +ℤ c) bs) (moved_closing counts e g c b bs x)

-- ---- what the tests of a change say

-- a set has some positions, and as many offsets
module _ (B : ℕ) (set : is_set width B ≡ true) where
  set_bounds : (0 < B) × (B < patterns)
  unfolding is_set
  set_bounds =
      (ltb-true 0 B (and_left (ltb 0 B) (ltb B patterns) set), ltb-true B patterns (and_right (ltb 0 B) (ltb B patterns) set))

  pub some_positions : 0 < length (positions width B)
  some_positions = omega (arith, (mem_index 0 (positions_nonempty width B set_bounds.0 set_bounds.1).1).1)

  pub some_offsets : 0 < length (offsets window B)
  unfolding offsets wide window
  some_offsets = omega (arith, some_positions, length-map (positions width B) (offset window))

-- a rank is 1 to the set's size
pub rank_bounds : (B k : ℕ) → Sound (Rank k B) → (is_set width B ≡ true) × (0 < k) × (k ≤ size window B)
unfolding is_sound
rank_bounds B k sound =
    let some = ltb 0 k in
    let few = leb k (size window B) in
    let front = and_left (is_set width B && some) few sound in (
      and_left (is_set width B) some front,
      ltb-true 0 k (and_right (is_set width B) some front),
      leb-true k (size window B) (and_right (is_set width B && some) few sound),
    )

-- where a row can be changed, the change is sound, the row is not too long, and the room is for it widened
pub change_bounds : (by : Change) (row room : List ℕ) → can_change by row room ≡ true
    → Sound by × (length row ≤ longest_row) × (is_wider opening row room ≡ true)
unfolding can_change
change_bounds by row room e =
    let short = leb (length row) longest_row in
    let wide = is_wider opening row room in
    let front = and_left (is_sound by && short) wide e in (
      and_left (is_sound by) short front,
      leb-true (length row) longest_row (and_right (is_sound by) short front),
      and_right (is_sound by && short) wide e,
    )

-- ---- each change

module _ (l r : ℕ) (s : List ℕ) where
  stretched_row : (high : Bool) (bs : List ℤ) → 0 < length bs → (e : Plan) → Fits window e
      → stretched high bs l r (row_of e l r s) ≡ row_of (stretched_plan high bs e) l r s
  unfolding stretched
  stretched_row false bs h e ok = picked_row l r s the_smallest bs h e ok
  stretched_row true bs h e ok = picked_row l r s the_largest (map neg_ℤ bs) (omega (arith, length-map bs neg_ℤ)) e ok

  -- the two parts of an opening or a closing
  both_row : (high : Bool) (bs : List ℤ) → 0 < length bs → (e : Plan) → Fits window e → Fits window (both_plan high bs e)
      → stretched (not high) (from_least bs) l r (stretched high (from_least bs) l r (row_of e l r s)) ≡ row_of (both_plan high bs e) l r s
  unfolding row_of
  both_row high [] h e ok whole = absurd (omega arith)
  both_row high (b ∷ bs) h e ok whole =
      let moved = from_least (b ∷ bs) in
      let some : 0 < length moved = some_moved b bs in
      ap (stretched (not high) moved l r) (stretched_row high moved some e ok)
      ∙ stretched_row (not high) moved some (stretched_plan high moved e) (inside_fits b bs window high e ok whole)
      ∙ tab_cong (length s + margin) _ _ (λ j k. moved-both b bs high e (between l r s) (sub_ℕ j reach))

  -- what a change makes of a plan's row is the row of the plan that it leaves
  pub changed_row : (by : Change) → Sound by → (e : Plan) → Fits window e → Fits window (plan_after by e)
      → after_change by l r (row_of e l r s) ≡ row_of (plan_after by e) l r s
  unfolding is_sound
  changed_row (Erode B) sound e ok whole = stretched_row false (offsets window B) (some_offsets B sound) e ok
  changed_row (Dilate B) sound e ok whole = stretched_row true (offsets window B) (some_offsets B sound) e ok
  changed_row (Open B) sound e ok whole = both_row false (offsets window B) (some_offsets B sound) e ok whole
  changed_row (Close B) sound e ok whole = both_row true (offsets window B) (some_offsets B sound) e ok whole
  changed_row (Rank k B) sound e ok whole =
      picked_row l r s (the_kth k) (offsets window B) (some_offsets B (rank_bounds B k sound).0) e ok
