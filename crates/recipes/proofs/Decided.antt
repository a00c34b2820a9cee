-- Each public call's contract allows one answer.
-- Assumes nothing.
use Rattle.recipes.specs.declared.Step.{Step}
use Rattle.std.specs.Prelude.{Result, Ok, Err, IfOk, IfErr}
use Rattle.recipes.specs.declared.Recipe.{Recipe}
use mathlib.Core.Logic.{◌⊎◌, inl, inr}
use Rattle.refusals.specs.declared.Refusal.{Refusal}
use Rattle.refusals.specs.Refusals.{Checked}
use Prim.Native.Nat.{ℕ}
use mathlib.Core.Path.{◌≡◌, refl, sym, ◌∙◌}
use mathlib.Core.List.{List}
use Rattle.theory.specs.Signals.{window, size}
use Rattle.recipes.specs.Steps.{decoded_of, step_at}
use Rattle.recipes.specs.Judge.{recipe_checked}

-- two answers that are both the defined one are one
decided : {A : Type 0} {a b c : A} → a ≡ c → b ≡ c → a ≡ b
decided p q = p ∙ sym q

pub size_decided : (set a b : ℕ) → a ≡ size window set → b ≡ size window set → a ≡ b
size_decided set a b p q = decided p q

pub decode_decided : (place code rank set : ℕ) (a b : Result Step Refusal)
    → a ≡ decoded_of place code rank set → b ≡ decoded_of place code rank set → a ≡ b
decode_decided place code rank set a b p q = decided p q

pub step_at_decided : (recipe : List ℕ) (place : ℕ) (a b : Result Step Refusal)
    → a ≡ step_at recipe place → b ≡ step_at recipe place → a ≡ b
step_at_decided recipe place a b p q = decided p q

pub judge_decided : (recipe : List ℕ) (a b : Checked) → a ≡ recipe_checked recipe → b ≡ recipe_checked recipe → a ≡ b
judge_decided recipe a b p q = decided p q

-- a recipe is accepted or refused, with one refusal, and its bytes are those given
pub recipe_decided : (bytes : List ℕ) (a b : Result Recipe Refusal)
    → IfOk a (λ r. r.bytes.now ≡ bytes) → IfErr a (λ why. recipe_checked bytes ≡ Err why)
    → IfOk b (λ r. r.bytes.now ≡ bytes) → IfErr b (λ why. recipe_checked bytes ≡ Err why)
    → ((p : Recipe) × (q : Recipe) × (a ≡ Ok p) × (b ≡ Ok q) × (p.bytes.now ≡ q.bytes.now)) ⊎ ((why : Refusal) × (a ≡ Err why) × (b ≡ Err why))
recipe_decided bytes (Ok p) (Ok q) ok err ok' err' = inl (p, q, refl, refl, ok ∙ sym ok')
recipe_decided bytes (Ok p) (Err why) ok err ok' err' = let fine : recipe_checked bytes ≡ Ok tt = rw (← ok) p.fine in absurd (cc)
recipe_decided bytes (Err why) (Ok q) ok err ok' err' = let fine : recipe_checked bytes ≡ Ok tt = rw (← ok') q.fine in absurd (cc)
recipe_decided bytes (Err why) (Err other) ok err ok' err' = let same : why ≡ other = cc in inr (why, refl, rw same refl)
