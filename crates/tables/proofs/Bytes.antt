-- The bytes of a truth table, each by its function.
-- Assumes nothing.
use mathlib.Core.Path.{◌≡◌}
use mathlib.Core.Bool.{Bool}
use Prim.Native.Nat.{ℕ, ◌+◌, ◌*◌, ◌<◌}
use native.Mathlib.Omega.{arith}
use Rattle.limits.specs.Limits.{byte_bits}
use Rattle.theory.specs.Sets.{gather}
use Rattle.theory.specs.Tables.{table_of}
use Rattle.theory.proofs.Lists.{tab_cong}
use Rattle.theory.proofs.Sets.{gather_cong}

-- byte j of the table of f
abbrev pub byte_of : (ℕ → Bool) → ℕ → ℕ
byte_of f j = gather byte_bits (λ i. f (byte_bits * j + i))

-- a table goes by its function's values
pub table_cong : (n : ℕ) (f g : ℕ → Bool) → ((v : ℕ) → v < byte_bits * n → f v ≡ g v) → table_of n f ≡ table_of n g
unfolding table_of
table_cong n f g same = tab_cong n _ _ (λ j l. gather_cong byte_bits _ _ (λ i k. same (byte_bits * j + i) (omega arith)))
