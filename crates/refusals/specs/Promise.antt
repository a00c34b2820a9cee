-- The promise of every call that answers a number and fills one slice.
use Rattle.std.specs.Prelude.{ℕ, ◌≡◌, List, length, Result, Ok}
use Rattle.refusals.specs.declared.Refusal.{Refusal}
use Rattle.refusals.specs.Refusals.{Checked, and_then, written}

-- check says what is refused when so many elements are lent; where it is fine the answer is n and the given elements stand at the slice's start
pub record Gives {A : Type 0} (check : ℕ → Checked) (n : ℕ) (given old new : List A) (r : Result ℕ Refusal) : Type 0 where
  pub answer : r ≡ and_then (check (length old)) (Ok n)
  pub out : new ≡ written (check (length old)) given old
