-- The two calls are inverse: a form is the form of its table, and a positive table is the table of its form.
-- Assumes nothing.
use mathlib.Core.Path.{◌≡◌, sym, ap, ◌∙◌}
use mathlib.Core.Bool.{false}
use mathlib.Core.List.{List, ◌++◌}
use Prim.Native.Nat.{ℕ, ◌^◌, ◌<◌, ◌≤◌}
use native.Mathlib.Omega.{arith}
use lib.ListN.{length, get_or, take, drop}
use lib.Seq.{take_at}
use Rattle.limits.specs.Limits.{width, patterns, byte_bits, table_bytes, most_terms}
use Rattle.theory.specs.Lists.{any_below}
use Rattle.theory.specs.Forms.{holds, Valid}
use Rattle.theory.specs.Tables.{table_at, slips}
use Rattle.theory.proofs.Canon.{form_of_holds, form_valid, holds_form, holds_positive}
use Rattle.theory.proofs.Tables.{table_same, fine_positive}
use Rattle.std.specs.Prelude.{Ok}
use Rattle.std.specs.Prelude.{Result}
use Rattle.refusals.specs.declared.Refusal.{Refusal}
use Rattle.refusals.proofs.Checks.{done_fine}
use Rattle.forms.proofs.Fine.{fine_form, form_fine}
use Rattle.tables.specs.Tables.{form_in, table_to_form_checked, form_to_table_checked, TableToForm, FormToTable}
use Rattle.tables.proofs.Tabulated.{tabulated_form, tabulated_steady}
use Rattle.tables.proofs.Accepted.{fine_table, table_fine, fine_form_to_table, form_to_table_fine, table_in, table_length, table_fills}

-- a form is the form of its table
pub form_back : (F : List ℕ) → Valid width F → form_in (table_in F) ≡ F
form_back F ok = tabulated_form (holds F) ∙ form_of_holds width F ok

-- a whole table of bytes
pub record Bytes (tb : List ℕ) : Type 0 where
  pub whole : length tb ≡ table_bytes
  pub byte : (j : ℕ) → j < length tb → get_or tb j 0 < 2 ^ byte_bits

-- a table that slips nowhere is the table of its form
pub table_back : (tb : List ℕ) → Bytes tb → any_below (slips width (table_at tb)) patterns ≡ false → table_in (form_in tb) ≡ tb
unfolding form_in
table_back tb b none =
    let f = table_at tb in
    rw b.whole at (table_same _ tb b.byte (λ v l. holds_form width f (fine_positive width f none) v (omega (arith, b.whole))))

-- the table of a form slips nowhere
pub form_steady : (F : List ℕ) → any_below (slips width (table_at (table_in F))) patterns ≡ false
form_steady F = tabulated_steady (holds F) (holds_positive width F)

-- ---- the calls

-- a form that is accepted is given again by its table, wherever there is room for it
pub form_table_form : (F old tb old' new : List ℕ) (n : ℕ) (r : Result ℕ Refusal) → FormToTable F old tb (Ok n) → TableToForm tb old' new r
    → length F ≤ length old' → (r ≡ Ok n) × (new ≡ F ++ drop (length F) old')
form_table_form F old tb old' new n r to back room =
    let d = done_fine _ (length F) n to.answer in
    let t = fine_form_to_table F (length old) d.0 in
    let table : tb ≡ table_in F = to.out ∙ rw d.0 (table_fills F old t.whole) in
    let form : form_in tb ≡ F = ap form_in table ∙ form_back F (fine_form width F t.form) in
    let fine : table_to_form_checked tb (length old') ≡ Ok tt =
    table_fine tb (length old')
    (record { whole = ap length table ∙ table_length F; steady = rw table (form_steady F); room = rw form room }) in
    (rw (fine, form) at back.answer ∙ ap (λ (k : ℕ). Ok k) (sym d.1), rw (fine, form) at back.out)

-- a table that is accepted is given again by its form, which 8 never refuses where it has no more terms than the most
pub table_form_table : (tb old new old' tb' : List ℕ) (n : ℕ) (r : Result ℕ Refusal) → Bytes tb → TableToForm tb old new (Ok n)
    → FormToTable (take n new) old' tb' r → n ≤ most_terms → length old' ≡ table_bytes → (r ≡ Ok n) × (tb' ≡ tb)
table_form_table tb old new old' tb' n r b to back few room =
    let d = done_fine _ (length (form_in tb)) n to.answer in
    let t = fine_table tb (length old) d.0 in
    let form : take n new ≡ form_in tb = ap (take n) (rw d.0 at to.out) ∙ take_at (form_in tb) _ n (sym d.1) in
    let fine : form_to_table_checked (form_in tb) (length old') ≡ Ok tt =
    form_to_table_fine (form_in tb) (length old')
    (record { form = form_fine width (form_in tb) (formed_valid tb) (rw (← d.1) few); whole = room }) in (
      rw (form, fine) at back.answer ∙ ap (λ (k : ℕ). Ok k) (sym d.1),
      rw (form, fine) at back.out ∙ table_fills (form_in tb) old' room ∙ table_back tb b t.steady,
    )
  where
    formed_valid : (tb : List ℕ) → Valid width (form_in tb)
    formed_valid tb = unfold form_in in form_valid width (table_at tb)
