-- The contract of a line, of any text and any room, allows one outcome.
-- Assumes nothing.
use Rattle.std.specs.Prelude.{Result}
use Rattle.refusals.specs.declared.Refusal.{Refusal}
use Prim.Native.Nat.{ℕ}
use mathlib.Core.Path.{◌≡◌}
use mathlib.Core.List.{List}
use Rattle.refusals.proofs.Decided.{gives_decided}
use Rattle.lines.specs.Lines.{Writes}

pub line_decided : (room : ℕ) (text old new new' : List ℕ) (r r' : Result ℕ Refusal) → Writes room text old new r → Writes room text old new' r'
    → (r ≡ r') × (new ≡ new')
line_decided room text old new new' r r' p q = gives_decided p q
