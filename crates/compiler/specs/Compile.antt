-- Compiling: one form for a recipe, and demand 3.
use Rattle.std.specs.Prelude.{Result, Ok}
use Rattle.refusals.specs.declared.Refusal.{Refusal}
use Rattle.refusals.specs.Refusals.{Checked}
use Rattle.std.specs.Prelude.{ℕ, ◌<◌, ◌≡◌, List, length}
use Rattle.limits.specs.Limits.{width}
use Rattle.theory.specs.Forms.{Valid, form_of}
use Rattle.theory.specs.Signals.{Ends, Scan, filtered_at}
use Rattle.refusals.specs.Refusals.{and_then}
use Rattle.refusals.specs.Shared.{room_checked}
use Rattle.refusals.specs.Promise.{Gives}
use Rattle.recipes.specs.Judge.{recipe_checked}
use Rattle.recipes.specs.Meaning.{value_at, truth_of}

-- the form of a recipe: the minimal patterns of its Boolean function
unfoldable pub compiled_form : List ℕ → List ℕ
compiled_form r = form_of width (truth_of r)

-- 1 to 5, then 6
unfoldable pub compile_checked : List ℕ → ℕ → Checked
compile_checked r lent = and_then (recipe_checked r) (room_checked (length (compiled_form r)) lent)

-- demand 3: a recipe's form is a form, and by either ends rule its filter is on every scan, at every sample, what the recipe gives there
-- step by step
pub record Faithful (r : List ℕ) : Type 0 where
  pub form : Valid width (compiled_form r)
  pub same : (ends : Ends) (s : List ℕ) → Scan s → (x : ℕ) → x < length s → filtered_at ends (compiled_form r) s x ≡ value_at ends r s x

-- the number of terms, the form from the start of the slice lent, and demand 3 for a recipe that is accepted
pub record Compile (r old new : List ℕ) (a : Result ℕ Refusal) : Type 0 where
  pub gives : Gives (compile_checked r) (length (compiled_form r)) (compiled_form r) old new a
  pub faithful : recipe_checked r ≡ Ok tt → Faithful r
