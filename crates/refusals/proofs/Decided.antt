-- A call that answers a number and fills one slice has one outcome.
-- Assumes nothing.
use Prim.Native.Nat.{ℕ}
use mathlib.Core.Path.{◌≡◌, sym, ◌∙◌}
use mathlib.Core.List.{List}
use Rattle.std.specs.Prelude.{Result}
use Rattle.refusals.specs.declared.Refusal.{Refusal}
use Rattle.refusals.specs.Refusals.{Checked}
use Rattle.refusals.specs.Promise.{Gives}

pub gives_decided : {A : Type 0} {check : ℕ → Checked} {n : ℕ} {given old new new' : List A} {r r' : Result ℕ Refusal}
    → Gives check n given old new r → Gives check n given old new' r' → (r ≡ r') × (new ≡ new')
gives_decided a b = (a.answer ∙ sym b.answer, a.out ∙ sym b.out)
