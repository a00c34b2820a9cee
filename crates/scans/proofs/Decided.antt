-- Each call's contract allows one outcome.
-- Assumes nothing.
use Prim.Native.Nat.{ℕ}
use mathlib.Core.Path.{◌≡◌, sym, ◌∙◌}
use mathlib.Core.List.{List}
use lib.IntN.{ℤ}
use Rattle.std.specs.Prelude.{Result, Option}
use Rattle.refusals.specs.declared.Refusal.{Refusal}
use Rattle.refusals.proofs.Decided.{gives_decided}
use Rattle.scans.specs.Run.{Clean, Residue, Root}

module _ (ts s : List ℕ) where
  pub clean_decided : (old new new' : List ℕ) (r r' : Result ℕ Refusal) → Clean ts s old new r → Clean ts s old new' r' → (r ≡ r') × (new ≡ new')
  clean_decided old new new' r r' a b = gives_decided a b

  pub residue_decided : (old new new' : List ℤ) (r r' : Result ℕ Refusal) → Residue ts s old new r → Residue ts s old new' r'
      → (r ≡ r') × (new ≡ new')
  residue_decided old new new' r r' a b = gives_decided a b

  pub root_decided : (r r' : Result (Option ℕ) Refusal) → Root ts s r → Root ts s r' → r ≡ r'
  root_decided r r' a b = a ∙ sym b
