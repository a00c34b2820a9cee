-- The contracts of reading and writing a scan file allow one outcome.
-- Assumes nothing.
use Rattle.std.specs.Prelude.{Result}
use Rattle.refusals.specs.declared.Refusal.{Refusal}
use mathlib.Core.Path.{◌≡◌, sym, ◌∙◌}
use mathlib.Core.List.{List}
use Prim.Native.Nat.{ℕ}
use Rattle.refusals.proofs.Decided.{gives_decided}
use Rattle.files.specs.declared.Sizes.{Sizes}
use Rattle.files.specs.Files.{Read, Write}

pub read_decided : {f samples terms samples₁ samples₂ terms₁ terms₂ : List ℕ} {a b : Result Sizes Refusal}
    → Read f samples samples₁ terms terms₁ a → Read f samples samples₂ terms terms₂ b → (a ≡ b) × (samples₁ ≡ samples₂) × (terms₁ ≡ terms₂)
read_decided r q = (r.answer ∙ sym q.answer, r.samples_out ∙ sym q.samples_out, r.terms_out ∙ sym q.terms_out)

pub write_decided : (form scan : List ℕ) {old new₁ new₂ : List ℕ} {a b : Result ℕ Refusal}
    → Write form scan old new₁ a → Write form scan old new₂ b → (a ≡ b) × (new₁ ≡ new₂)
write_decided form scan w v = gives_decided w v
