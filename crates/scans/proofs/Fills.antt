-- A slice that is filled whole.
-- Assumes nothing.
use mathlib.Core.Path.{◌≡◌, ap, ◌∙◌}
use mathlib.Core.List.{List}
use Prim.Native.Nat.{ℕ, ◌≤◌}
use native.Mathlib.Omega.{arith}
use lib.ListN.{length}
use Rattle.theory.specs.Lists.{tab}
use Rattle.theory.proofs.Fills.{Filled, fill_all}

-- as many turns as the slice has elements fill it
pub fill_whole : {A : Type 0} {f : ℕ → A} {old new : List A} {j n : ℕ} → Filled f old new j → length old ≤ j → length old ≡ n
    → (j ≡ n) × (new ≡ tab n f)
fill_whole {f = f} r h e = let short = r.short in (omega arith, fill_all r h ∙ ap (λ (n : ℕ). tab n f) e)
