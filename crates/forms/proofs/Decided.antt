-- The form check's contract allows one answer.
-- Assumes nothing.
use Prim.Native.Nat.{ℕ}
use mathlib.Core.Path.{◌≡◌, sym, ◌∙◌}
use mathlib.Core.List.{List}
use Rattle.refusals.specs.Refusals.{Checked}
use Rattle.forms.specs.Check.{form_checked}

pub check_decided : (w : ℕ) (ts : List ℕ) (a b : Checked) → a ≡ form_checked w ts → b ≡ form_checked w ts → a ≡ b
check_decided w ts a b p q = p ∙ sym q
