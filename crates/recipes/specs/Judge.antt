-- Which recipes are accepted: 1; then step by step 2, 3, 4, 5; then 4 at the end.
use Rattle.recipes.specs.declared.Step.{Step}
use Rattle.std.specs.Prelude.{Result, Ok, Err}
use Rattle.refusals.specs.declared.Refusal.{Refusal}
use Rattle.refusals.specs.declared.Refusal.TheVariants.{RecipeLength, SignalsHeld}
use Rattle.refusals.specs.declared.Refusal.TheVariants as refusal
use Rattle.refusals.specs.Refusals.{Checked}
use Rattle.std.specs.Prelude.{ℕ, zero, suc, ◌+◌, ◌*◌, ◌/◌, ◌%◌, Bool, not, ◌&&◌, ◌||◌, List, [], leb, ltb, eqb, nat_abs, length, get_or}
use Rattle.std.proofs.Math.Option.{Option, none, some}
use Rattle.limits.specs.Limits.{reach, step_bytes, most_steps}
use Rattle.refusals.specs.Refusals.{refuse_if, and_then}
use Rattle.recipes.specs.Steps.{step_at}
use Rattle.recipes.specs.Machine.{Reach, act, reaches}

-- a reach lies in -4 to 4: both its ends do
unfoldable pub in_reach : Reach → Bool
in_reach r = leb (nat_abs r.lo) reach && leb (nat_abs r.hi) reach

-- after step i: 4 where it cannot be done, 5 where the reach of the last signal leaves, and else what comes next
unfoldable pub onward : ℕ → Option (List Reach) → (List Reach → Checked) → Checked
onward i none next = Err (SignalsHeld i)
onward i (some st) next = and_then (refuse_if (not (in_reach (get_or st 0 reaches.the_scan))) (refusal.Reach i)) (next st)

-- step i: 2 or 3 where it is none
unfoldable pub stepped : ℕ → Result Step Refusal → List Reach → (List Reach → Checked) → Checked
stepped i (Err why) st next = Err why
stepped i (Ok s) st next = onward i (act reaches s st) next

-- m steps from step i on, with the reaches of the signals held so far; at the end 4 where not one signal is left
unfoldable pub judged_from : List ℕ → ℕ → ℕ → List Reach → Checked
judged_from r zero i st = refuse_if (not (eqb (length st) 1)) (SignalsHeld i)
judged_from r (suc m) i st = stepped i (step_at r i) st (judged_from r m (i + 1))

-- a recipe is empty, over 128 bytes, or not a multiple of 4
unfoldable pub bad_length : ℕ → Bool
bad_length n = eqb n 0 || ltb (step_bytes * most_steps) n || not (eqb (n % step_bytes) 0)

-- 1 to 5
unfoldable pub recipe_checked : List ℕ → Checked
recipe_checked r = and_then (refuse_if (bad_length (length r)) (RecipeLength (length r))) (judged_from r (length r / step_bytes) 0 [])
