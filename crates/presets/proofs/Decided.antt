-- The preset call's contract allows one outcome.
-- Assumes nothing.
use Prim.Native.Nat.{ℕ}
use mathlib.Core.Path.{◌≡◌}
use mathlib.Core.List.{List}
use Rattle.std.specs.Prelude.{Result}
use Rattle.refusals.specs.declared.Refusal.{Refusal}
use Rattle.refusals.proofs.Decided.{gives_decided}
use Rattle.presets.specs.Presets.{Preset}

pub preset_decided : (i : ℕ) (old new new' : List ℕ) (r r' : Result ℕ Refusal) → Preset i old new r → Preset i old new' r' → (r ≡ r') × (new ≡ new')
preset_decided i old new new' r r' p q = gives_decided p q
