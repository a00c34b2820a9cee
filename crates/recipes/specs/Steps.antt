-- A step's four bytes: code, rank, then the set B, two bytes, low first. A field not listed must be 0.
use Rattle.std.specs.Prelude.{Result, Ok, Err}
use Rattle.refusals.specs.declared.Refusal.{Refusal}
use Rattle.refusals.specs.declared.Refusal.TheVariants.{StepCode, StepField}
use Rattle.std.specs.Prelude.{ℕ, ◌+◌, ◌*◌, ◌%◌, Bool, cond, ◌&&◌, List, leb, eqb, get_or}
use Rattle.limits.specs.Limits.{width, step_bytes}
use Rattle.theory.specs.Sets.{is_set}
use Rattle.theory.specs.Signals.{window, size}
use Rattle.recipes.specs.declared.Step.{Step}
use Rattle.recipes.specs.declared.Step.TheVariants.{Signal, Erode, Dilate, Open, Close, Rank, Median, Larger, Smaller}

-- a step with no field
abbrev pub no_fields : ℕ → ℕ → Bool
no_fields k B = eqb k 0 && eqb B 0

-- a step whose only field is B, 1 to 511
abbrev pub set_alone : ℕ → ℕ → Bool
set_alone k B = eqb k 0 && is_set width B

-- k is 1 to the size of B
unfoldable pub rank_fits : ℕ → ℕ → Bool
rank_fits k B = is_set width B && (leb 1 k && leb k (size window B))

-- B has an odd size
unfoldable pub odd_set : ℕ → ℕ → Bool
odd_set k B = set_alone k B && eqb (size window B % 2) 1

-- a step whose fields are allowed, or 3 at its place
abbrev pub allowed : ℕ → Bool → Step → Result Step Refusal
allowed i ok s = cond ok (Ok s) (Err (StepField i))

-- the step at place i, by its code, rank and set: the table's first three columns; a code over 8 is 2
unfoldable pub decoded_of : ℕ → ℕ → ℕ → ℕ → Result Step Refusal
decoded_of i code k B =
    cond (eqb code 0) (allowed i (no_fields k B) Signal)
    (cond (eqb code 1) (allowed i (set_alone k B) (Erode B))
    (cond (eqb code 2) (allowed i (set_alone k B) (Dilate B))
    (cond (eqb code 3) (allowed i (set_alone k B) (Open B))
    (cond (eqb code 4) (allowed i (set_alone k B) (Close B))
    (cond (eqb code 5) (allowed i (rank_fits k B) (Rank k B))
    (cond (eqb code 6) (allowed i (odd_set k B) (Median B))
    (cond (eqb code 7) (allowed i (no_fields k B) Larger)
    (cond (eqb code 8) (allowed i (no_fields k B) Smaller)
    (Err (StepCode i))))))))))

-- the step at place i of a recipe
unfoldable pub step_at : List ℕ → ℕ → Result Step Refusal
step_at r i =
    let at = step_bytes * i in
    decoded_of i (get_or r at 0) (get_or r (at + 1) 0) (get_or r (at + 2) 0 + 256 * get_or r (at + 3) 0)
