-- The compiler's promise allows one outcome.
-- Assumes nothing.
use Rattle.std.specs.Prelude.{Result}
use Rattle.refusals.specs.declared.Refusal.{Refusal}
use Prim.Native.Nat.{ℕ}
use mathlib.Core.Path.{◌≡◌}
use mathlib.Core.List.{List}
use Rattle.refusals.proofs.Decided.{gives_decided}
use Rattle.compiler.specs.Compile.{Compile}

pub compile_decided : (r old new new' : List ℕ) (a a' : Result ℕ Refusal) → Compile r old new a → Compile r old new' a' → (a ≡ a') × (new ≡ new')
compile_decided r old new new' a a' p q = gives_decided p.gives q.gives
