-- The call's contract allows one outcome.
-- Assumes nothing.
use Rattle.std.specs.Prelude.{Result}
use Rattle.refusals.specs.declared.Refusal.{Refusal}
use Prim.Native.Nat.{ℕ}
use mathlib.Core.Path.{◌≡◌}
use mathlib.Core.List.{List}
use Rattle.refusals.proofs.Decided.{gives_decided}
use Rattle.runner.specs.Run.{Run}

pub run_decided : (r s old new new' : List ℕ) (a a' : Result ℕ Refusal) → Run r s old new a → Run r s old new' a' → (a ≡ a') × (new ≡ new')
run_decided r s old new new' a a' p q = gives_decided p q
