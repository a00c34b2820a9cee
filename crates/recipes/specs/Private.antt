-- Only private contracts cite this: the steps of a range of codes, all steps judged, and document 01's column "Reach" row by row.
use Rattle.std.specs.Prelude.{Err, Option, Some, None}
use Rattle.std.proofs.Math.Option.{Option as Maybe, none, some}
use Rattle.refusals.specs.declared.Refusal.TheVariants.{SignalsHeld}
use Rattle.refusals.specs.declared.Refusal.TheVariants as refusal
use Rattle.refusals.specs.Refusals.{Checked, refuse_if}
use Rattle.std.specs.Prelude.{ℕ, ◌/◌, ◌≤◌, cond, not, get_or, List, [], eqb, ℤ, pos, nat_abs, ◌+ℤ◌, ◌-ℤ◌, length}
use Rattle.limits.specs.Limits.{reach, step_bytes}
use Rattle.theory.specs.Signals.{window, offsets, leftmost, rightmost}
use Rattle.recipes.specs.declared.Step.{Step}
use Rattle.recipes.specs.declared.Step.TheVariants.{Signal, Erode, Dilate, Open, Close, Rank, Median, Larger, Smaller}
use Rattle.recipes.specs.Machine.{Reach, both_reach, reaches}
use Rattle.recipes.specs.Judge.{in_reach, judged_from}

-- the step of a code from 1 to 4
abbrev pub change_of : ℕ → ℕ → Step
change_of code B = cond (eqb code 1) (Erode B) (cond (eqb code 2) (Dilate B) (cond (eqb code 3) (Open B) (Close B)))

-- the step of a code from 7 to 8
abbrev pub join_of : ℕ → Step
join_of code = cond (eqb code 7) Larger Smaller

-- all the steps of a recipe, judged
unfoldable pub judged : List ℕ → Checked
judged r = judged_from r (length r / step_bytes) 0 []

-- step i, with what it makes of the reaches held: 4 where it cannot be done, 5 where the reach of the last signal leaves
unfoldable pub step_checked : ℕ → Maybe (List Reach) → Checked
step_checked i none = Err (SignalsHeld i)
step_checked i (some st) = refuse_if (not (in_reach (get_or st 0 reaches.the_scan))) (refusal.Reach i)

-- the reach of the scan: 0 to 0
abbrev pub origin : Reach
origin = record { lo = pos 0; hi = pos 0 }

-- an end of a reach that lies in -4 to 4
abbrev pub Little : ℤ → Type 0
Little z = nat_abs z ≤ reach

-- a reach that lies in -4 to 4, if it does
abbrev pub within : Reach → Option Reach
within r = cond (in_reach r) (Some r) None

-- the least and the greatest offset of B
abbrev pub min_of : ℕ → ℤ
min_of B = leftmost (offsets window B)

abbrev pub max_of : ℕ → ℤ
max_of B = rightmost (offsets window B)

-- lo+min B to hi+max B
unfoldable pub eroded_reach : ℕ → Reach → Reach
eroded_reach B r = record { lo = r.lo +ℤ min_of B; hi = r.hi +ℤ max_of B }

-- lo-max B to hi-min B
unfoldable pub dilated_reach : ℕ → Reach → Reach
dilated_reach B r = record { lo = r.lo -ℤ max_of B; hi = r.hi -ℤ min_of B }

-- lo-(max B-min B) to hi+(max B-min B)
unfoldable pub opened_reach : ℕ → Reach → Reach
opened_reach B r = record { lo = r.lo -ℤ (max_of B -ℤ min_of B); hi = r.hi +ℤ (max_of B -ℤ min_of B) }

-- how many signals a step takes; it leaves one
abbrev pub taken : Step → ℕ
taken Signal = 0
taken (Erode B) = 1
taken (Dilate B) = 1
taken (Open B) = 1
taken (Close B) = 1
taken (Rank k B) = 1
taken (Median B) = 1
taken Larger = 2
taken Smaller = 2

-- the column: the reach of the signal that a step leaves, of the reaches of the signals that it takes
abbrev pub reach_left : Step → Reach → Reach → Reach
reach_left Signal q r = origin
reach_left (Erode B) q r = eroded_reach B q
reach_left (Dilate B) q r = dilated_reach B q
reach_left (Open B) q r = opened_reach B q
reach_left (Close B) q r = opened_reach B q
reach_left (Rank k B) q r = eroded_reach B q
reach_left (Median B) q r = eroded_reach B q
reach_left Larger q r = both_reach q r
reach_left Smaller q r = both_reach q r
