-- Each function of the C interface has one outcome: two that its contract allows on the same input have the same result, the same value,
-- and the same in everything else that it writes.
-- Assumes nothing.
use Rattle.std.specs.Prelude.{Result}
use Rattle.refusals.specs.Refusals.{Checked}
use Prim.Native.Nat.{ℕ}
use mathlib.Core.Path.{◌≡◌, sym, ap, ◌∙◌}
use mathlib.Core.List.{List}
use Rattle.refusals.specs.declared.Refusal.{Refusal}
use Rattle.refusals.specs.declared.Notice.{Notice}
use Rattle.refusals.specs.Numbers.{notice}
use Rattle.refusals.specs.Promise.{Gives}
use Rattle.refusals.proofs.Decided.{gives_decided}
use Rattle.compiler.specs.Compile.{Compile}
use Rattle.exports.specs.Told.{notice_told, Told}

module _ {code code' value value' : ℕ} where
  -- where two promises leave one answer and tell something else beside, C is told one thing
  told_decided : {P Q : Result ℕ Refusal → Type 0} {Else : Type 0} → ((a b : Result ℕ Refusal) → P a → Q b → (a ≡ b) × Else)
      → Told P code value → Told Q code' value' → (code ≡ code') × (value ≡ value') × Else
  told_decided one t t' =
      let same = one t.answer t'.answer t.promised t'.promised in
      let n : notice code value ≡ notice code' value' = t.is ∙ ap notice_told same.0 ∙ sym t'.is in
      (ap (λ (x : Notice). x.number) n, ap (λ (x : Notice). x.place) n, same.1)

  -- the calls that answer a number and fill one slice
  pub slice_decided : {A : Type 0} {check : ℕ → Checked} {n : ℕ} {gift old new new' : List A}
      → Told (Gives check n gift old new) code value → Told (Gives check n gift old new') code' value'
      → (code ≡ code') × (value ≡ value') × (new ≡ new')
  slice_decided = told_decided (λ a b p q. gives_decided p q)

  -- compiling, which promises more beside
  pub compile_decided : {recipe old new new' : List ℕ}
      → Told (Compile recipe old new) code value → Told (Compile recipe old new') code' value'
      → (code ≡ code') × (value ≡ value') × (new ≡ new')
  compile_decided = told_decided (λ a b p q. gives_decided p.gives q.gives)

  -- those of them that change something else besides, which their contracts give by an equation: the night sheet's lines, and its totals
  pub night_decided : {A : Type 0} {check : ℕ → Checked} {n : ℕ} {gift old new new' : List A} {X : Type 0} {x x' known : X}
      → Told (Gives check n gift old new) code value → x ≡ known → Told (Gives check n gift old new') code' value' → x' ≡ known
      → (code ≡ code') × (value ≡ value') × ((new ≡ new') × (x ≡ x'))
  night_decided t e t' e' =
      told_decided (λ a b p q. let both = gives_decided p q in (both.0, (both.1, e ∙ sym e'))) t t'

  -- the form check, the root question, reading, counting and the list of names: whatever else these write, their contracts give by an equation
  pub answer_decided : {answer : Result ℕ Refusal} {X : Type 0} {x x' known : X} → Told (λ a. a ≡ answer) code value → x ≡ known
      → Told (λ a. a ≡ answer) code' value' → x' ≡ known → (code ≡ code') × (value ≡ value') × (x ≡ x')
  answer_decided t e t' e' = told_decided (λ a b p q. (p ∙ sym q, e ∙ sym e')) t t'
