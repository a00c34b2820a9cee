-- What a recipe gives: the one signal that its steps leave, on endless signals.
use Rattle.std.specs.Prelude.{Result, Ok, Err}
use Rattle.refusals.specs.declared.Refusal.{Refusal}
use Rattle.recipes.specs.declared.Step.{Step}
use Rattle.std.specs.Prelude.{ℕ, zero, suc, ◌+◌, ◌/◌, Bool, List, [], pos, length, get_or}
use Rattle.std.proofs.Math.Option
use Rattle.std.proofs.Math.Option.{Option, none, some, bind}
use Rattle.limits.specs.Limits.{step_bytes}
use Rattle.theory.specs.Orders.{counts, bools}
use Rattle.theory.specs.Signals.{Ends, endless, window, spread}
use Rattle.recipes.specs.Steps.{step_at}
use Rattle.recipes.specs.Machine.{Machine, act, signals}

module _ {S : Type 0} (M : Machine S) where
  -- what is decoded, done to the signals held; none where it is no step
  unfoldable pub done : Result Step Refusal → List S → Option (List S)
  done (Ok s) st = act M s st
  done (Err why) st = none

  -- m steps from step i on
  unfoldable pub run : List ℕ → ℕ → ℕ → List S → Option (List S)
  run r zero i st = some st
  run r (suc m) i st = bind (done (step_at r i) st) (run r m (i + 1))

  -- the last signal that the recipe's steps leave, the only one where it is accepted; the scan where they leave none
  unfoldable pub made : List ℕ → S
  made r = get_or (Option.get_or (run r (length r / step_bytes) 0 []) []) 0 M.the_scan

-- the recipe's value at x of a scan, under an ends rule
unfoldable pub value_at : Ends → List ℕ → List ℕ → ℕ → ℕ
value_at ends r s x = made (signals counts (endless 0 ends s)) r (pos x)

-- the recipe's Boolean function: its value at 0 on the signal that is 1 exactly at the offsets of the pattern v
unfoldable pub truth_of : List ℕ → ℕ → Bool
truth_of r v = made (signals bools (spread window v)) r (pos 0)
