-- The machine on reaches: a plan's reach is that of the offsets that it reads, and each step leaves the reach of document 01's column.
-- Assumes nothing.
use mathlib.Core.Path.{◌≡◌, refl, sym, ap, ap₂, ◌∙◌}
use mathlib.Core.Bool.{Bool, true, false, not, cond, ◌&&◌, and-true}
use mathlib.Core.List.{List, ◌∷◌}
use mathlib.Core.Option.{Option, some}
use Prim.Native.Nat.{ℕ, zero, suc, ◌-◌, ◌*◌, ◌≤◌, ◌<◌}
use native.Mathlib.Omega.{arith}
use lib.Dec.{ltb, leb, leb-suc-suc}
use lib.IntN.{ℤ, pos, negsuc, neg_ℤ, nat_abs, ◌+ℤ◌, ◌-ℤ◌, +ℤ_assoc, +ℤ_comm, neg_ℤ-+ℤ, neg_ℤ-neg_ℤ}
use lib.ListN.{length}
use lib.Signed.{lt_z, le_z, mag}
use borrow.Author.Tests.{leb-true, leb-false, lt-ltb, le-ltb}
use Rattle.limits.specs.Limits.{reach, most_signals}
use Rattle.theory.specs.Signals.{window, offsets}
use Rattle.theory.proofs.Plans.{Plan, scan, near, larger_plan, smaller_plan, lo, hi}
use Rattle.theory.proofs.Tests.{which, and_left, and_right}
use mathlib.Core.Logic.{◌⊎◌, inl, inr}
use Rattle.std.specs.Int.{int_min, int_max}
use Rattle.theory.specs.Orders.{smaller, larger}
use Rattle.std.proofs.Common.{w32, to_z, of_z}
use Rattle.theory.proofs.Signs.{mag_neg, mag_diff, signed_bound, read_back}
use Rattle.theory.proofs.Offsets.{leftmost_neg, rightmost_neg}
use Rattle.recipes.specs.declared.Step.{Step}
use Rattle.recipes.specs.declared.Step.TheVariants.{Signal, Erode, Dilate, Open, Close, Rank, Median, Larger, Smaller}
use Rattle.recipes.specs.Machine.{Reach, added, replaced, joined, eroded, dilated, ranked_by, act, reaches, both_reach}
use Rattle.recipes.specs.Judge.{in_reach}
use Rattle.recipes.specs.Private.{min_of, max_of, eroded_reach, dilated_reach, opened_reach, taken, reach_left}
use Rattle.recipes.proofs.Plans.{fold}

-- two reaches with the same ends
pub reach_by : {l l' h h' : ℤ} → l ≡ l' → h ≡ h' → ◌≡◌ {A = Reach} (record { lo = l; hi = h }) (record { lo = l'; hi = h' })
reach_by p q = ap₂ {C = Reach} (λ l h. record { lo = l; hi = h }) p q

-- ---- of a plan: the least and the greatest offset that it reads

pub fold-reaches : (e : Plan) → fold reaches e ≡ record { lo = lo e; hi = hi e }
unfolding fold reaches both_reach lo hi
fold-reaches scan = refl
fold-reaches (near p bs e) = rw (fold-reaches e) (reach_by (+ℤ_comm (lo e) _) (+ℤ_comm (hi e) _))
fold-reaches (larger_plan a b) = ap₂ both_reach (fold-reaches a) (fold-reaches b)
fold-reaches (smaller_plan a b) = ap₂ both_reach (fold-reaches a) (fold-reaches b)

-- ---- of a step: the column

-- an end moved twice is moved by the sum
moved_twice : (x y z : ℤ) {w : ℤ} → y +ℤ z ≡ w → x +ℤ y +ℤ z ≡ x +ℤ w
moved_twice x y z e = +ℤ_assoc x y z ∙ ap (λ (k : ℤ). x +ℤ k) e

neg_sub : (a b : ℤ) → neg_ℤ a +ℤ b ≡ neg_ℤ (a -ℤ b)
neg_sub a b = sym (neg_ℤ-+ℤ a (neg_ℤ b) ∙ ap (λ (z : ℤ). neg_ℤ a +ℤ z) (neg_ℤ-neg_ℤ b))

module _ (B : ℕ) where
  eroded_column : (r : Reach) → eroded reaches B r ≡ eroded_reach B r
  unfolding eroded reaches eroded_reach
  eroded_column r = refl

  ranked_column : (k : ℕ) (r : Reach) → ranked_by reaches k B r ≡ eroded_reach B r
  unfolding ranked_by reaches eroded_reach
  ranked_column k r = refl

  dilated_column : (r : Reach) → dilated reaches B r ≡ dilated_reach B r
  unfolding dilated reaches dilated_reach
  dilated_column r = rw (leftmost_neg (offsets window B), rightmost_neg (offsets window B))

  opened_column : (r : Reach) → dilated reaches B (eroded reaches B r) ≡ opened_reach B r
  unfolding eroded_reach dilated_reach opened_reach
  opened_column r =
      let m = min_of B in
      let M = max_of B in
      dilated_column (eroded reaches B r) ∙ ap (dilated_reach B) (eroded_column r)
      ∙ reach_by (moved_twice r.lo m (neg_ℤ M) (+ℤ_comm m (neg_ℤ M) ∙ neg_sub M m)) (moved_twice r.hi M (neg_ℤ m) refl)

  closed_column : (r : Reach) → eroded reaches B (dilated reaches B r) ≡ opened_reach B r
  unfolding eroded_reach dilated_reach opened_reach
  closed_column r =
      let m = min_of B in
      let M = max_of B in
      eroded_column (dilated reaches B r) ∙ ap (eroded_reach B) (dilated_column r)
      ∙ reach_by (moved_twice r.lo (neg_ℤ M) m (neg_sub M m)) (moved_twice r.hi (neg_ℤ m) M (+ℤ_comm (neg_ℤ m) M))

-- t signals, the last one first, above those of st: none, q, or q and then r
abbrev pub above : ℕ → Reach → Reach → List Reach → List Reach
above zero q r st = st
above (suc zero) q r st = q ∷ st
above (suc (suc t)) q r st = r ∷ q ∷ st

on_top : {q r : Reach} (st : List Reach) → q ≡ r → some (q ∷ st) ≡ some (r ∷ st)
on_top st e = ap {B = Option (List Reach)} (λ q. some (q ∷ st)) e

-- the reach after each step is the column's, row by row
pub reach_table : (s : Step) (q r : Reach) (st : List Reach) → length st < most_signals
    → act reaches s (above (taken s) q r st) ≡ some (reach_left s q r ∷ st)
unfolding act added replaced joined reaches
reach_table Signal q r st l = rw (lt-ltb (length st) most_signals l)
reach_table (Erode B) q r st l = on_top st (eroded_column B q)
reach_table (Dilate B) q r st l = on_top st (dilated_column B q)
reach_table (Open B) q r st l = on_top st (opened_column B q)
reach_table (Close B) q r st l = on_top st (closed_column B q)
reach_table (Rank k B) q r st l = on_top st (ranked_column B k q)
reach_table (Median B) q r st l = on_top st (ranked_column B _ q)
reach_table Larger q r st l = refl
reach_table Smaller q r st l = refl

-- ---- the ends of a reach

-- -4 to 4
unfoldable pub is_near : ℤ → Bool
is_near z = le_z (neg_ℤ (pos reach)) z && le_z z (pos reach)

-- by either test
pub near_by : (z : ℤ) → is_near z ≡ leb (nat_abs z) reach
unfolding is_near
near_by (pos n) = refl
near_by (negsuc n) = and-true _ ∙ sym (leb-suc-suc n (reach - 1))

pub in_near : (r : Reach) → in_reach r ≡ true → (is_near r.lo ≡ true) × (is_near r.hi ≡ true)
unfolding in_reach
in_near r h = (near_by r.lo ∙ and_left _ _ h, near_by r.hi ∙ and_right (leb (nat_abs r.lo) reach) _ h)

-- ---- ends read back: what is small is as it is

read_small : (z : ℤ) → mag z ≤ 6 * reach → to_z w32 (of_z w32 z) ≡ z
read_small z h = read_back z (omega arith)

mag_abs : (z : ℤ) → mag z ≤ nat_abs z
mag_abs (pos n) = omega arith
mag_abs (negsuc n) = omega arith

module _ (z d : ℤ) {v : ℤ} (little : nat_abs z ≤ reach) (h : mag d ≤ 3 * reach) (is : d ≡ v) where
  pub read_sum : to_z w32 (of_z w32 (to_z w32 (of_z w32 z) +ℤ to_z w32 (of_z w32 d))) ≡ z +ℤ v
  read_sum =
      let sum : mag (z +ℤ d) ≤ 6 * reach = omega (arith, mag_abs z, mag_neg d, rw (neg_ℤ-neg_ℤ d) at (mag_diff z (neg_ℤ d))) in
      rw (read_small z (omega (arith, mag_abs z)), read_small d (omega arith), read_small (z +ℤ d) sum, is)

  pub read_difference : to_z w32 (of_z w32 (to_z w32 (of_z w32 z) -ℤ to_z w32 (of_z w32 d))) ≡ z -ℤ v
  read_difference =
      let difference : mag (z -ℤ d) ≤ 6 * reach = omega (arith, mag_abs z, mag_diff z d) in
      rw (read_small z (omega (arith, mag_abs z)), read_small d (omega arith), read_small (z -ℤ d) difference, is)

pub read_little : (z : ℤ) → nat_abs z ≤ reach → to_z w32 (of_z w32 z) ≡ z
read_little z h = read_small z (omega (arith, mag_abs z))

-- std's words for the smaller and the larger are the order's
flipped : (a b : ℕ) → ltb b a ≡ not (leb a b)
flipped a b = go (which (leb a b))
  where
    go : (leb a b ≡ true) ⊎ (leb a b ≡ false) → ltb b a ≡ not (leb a b)
    go (inl t) = rw (t, le-ltb b a (leb-true a b t))
    go (inr f) = rw (f, lt-ltb b a (leb-false a b f))

lt_flipped : (y z : ℤ) → lt_z z y ≡ not (le_z y z)
lt_flipped (pos a) (pos b) = flipped a b
lt_flipped (pos a) (negsuc b) = refl
lt_flipped (negsuc a) (pos b) = refl
lt_flipped (negsuc a) (negsuc b) = flipped b a

turned : {A : Type 0} (b : Bool) (x y : A) → cond (not b) y x ≡ cond b x y
turned true x y = refl
turned false x y = refl

module _ (y z : ℤ) (h : nat_abs y ≤ reach) (k : nat_abs z ≤ reach) (v : ℤ) (fits : mag v < signed_bound) where
  pub read_min : v ≡ int_min (to_z w32 (of_z w32 y)) (to_z w32 (of_z w32 z)) → to_z w32 (of_z w32 v) ≡ smaller le_z y z
  unfolding smaller
  read_min e = read_back v fits ∙ e ∙ rw (read_little y h, read_little z k, lt_flipped y z) (turned (le_z y z) y z)

  pub read_max : v ≡ int_max (to_z w32 (of_z w32 y)) (to_z w32 (of_z w32 z)) → to_z w32 (of_z w32 v) ≡ larger le_z y z
  unfolding larger
  read_max e = read_back v fits ∙ e ∙ rw (read_little y h, read_little z k, lt_flipped y z) (turned (le_z y z) z y)
