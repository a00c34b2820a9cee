-- The contracts of the table calls allow one outcome.
-- Assumes nothing.
use Prim.Native.Nat.{ℕ}
use mathlib.Core.Path.{◌≡◌}
use mathlib.Core.List.{List}
use Rattle.std.specs.Prelude.{Result}
use Rattle.refusals.specs.declared.Refusal.{Refusal}
use Rattle.refusals.proofs.Decided.{gives_decided}
use Rattle.tables.specs.Tables.{TableToForm, FormToTable}

pub table_to_form_decided : (tb old new new' : List ℕ) (r r' : Result ℕ Refusal) → TableToForm tb old new r → TableToForm tb old new' r'
    → (r ≡ r') × (new ≡ new')
table_to_form_decided tb old new new' r r' p q = gives_decided p q

pub form_to_table_decided : (ts old new new' : List ℕ) (r r' : Result ℕ Refusal) → FormToTable ts old new r → FormToTable ts old new' r'
    → (r ≡ r') × (new ≡ new')
form_to_table_decided ts old new new' r r' p q = gives_decided p q
