-- The contract of checking a list allows one answer.
-- Assumes nothing.
use Prim.Native.Nat.{ℕ}
use mathlib.Core.Path.{◌≡◌, sym, ◌∙◌}
use mathlib.Core.List.{List}
use Rattle.std.specs.Prelude.{Result}
use Rattle.refusals.specs.declared.Refusal.{Refusal}
use Rattle.lists.specs.Names.{CheckList}

pub list_decided : (text : List ℕ) {a b : Result ℕ Refusal} → CheckList text a → CheckList text b → a ≡ b
list_decided text p q = p ∙ sym q
