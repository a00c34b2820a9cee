-- The table of a positive function: its form is the function's, and only 6 can refuse it.
-- Assumes nothing.
use mathlib.Core.Path.{◌≡◌, sym, ap, ap₂, ◌∙◌}
use mathlib.Core.Bool.{Bool, false}
use mathlib.Core.List.{List}
use Prim.Native.Nat.{ℕ, ◌<◌}
use native.Mathlib.Omega.{arith}
use lib.ListN.{length}
use borrow.Author.Tests.{eq-eqb}
use Rattle.limits.specs.Limits.{width, patterns, table_bytes}
use Rattle.theory.specs.Lists.{any_below}
use Rattle.theory.specs.Forms.{Positive, form_of}
use Rattle.theory.specs.Tables.{table_at, table_of, slips}
use Rattle.theory.proofs.Lists.{length-tab}
use Rattle.theory.proofs.Sets.{within_le}
use Rattle.theory.proofs.Canon.{form_cong}
use Rattle.theory.proofs.Tables.{table_value, positive_fine}
use Rattle.refusals.specs.Refusals.{and_then, written}
use Rattle.refusals.specs.Shared.{room_checked}
use Rattle.refusals.specs.Promise.{Gives}
use Rattle.refusals.specs.Refusals.{Checked}
use Rattle.std.specs.Prelude.{Result, Ok}
use Rattle.refusals.specs.declared.Refusal.{Refusal}
use Rattle.tables.specs.Tables.{bytes_checked, positive_checked, form_in, table_to_form_checked, TableToForm}

module _ (f : ℕ → Bool) where
  value : (v : ℕ) → v < patterns → table_at (table_of table_bytes f) v ≡ f v
  value v l = table_value table_bytes f v (omega arith)

  pub tabulated_length : length (table_of table_bytes f) ≡ table_bytes
  unfolding table_of
  tabulated_length = length-tab table_bytes _

  pub tabulated_form : form_in (table_of table_bytes f) ≡ form_of width f
  unfolding form_in
  tabulated_form = form_cong width _ f value

  pub tabulated_steady : Positive width f → any_below (slips width (table_at (table_of table_bytes f))) patterns ≡ false
  tabulated_steady pos = positive_fine width _ (λ u v l e h. value v l ∙ pos u v l e (sym (value u (omega (arith, within_le e))) ∙ h))

  tabulated_checked : Positive width f → (lent : ℕ)
      → table_to_form_checked (table_of table_bytes f) lent ≡ room_checked (length (form_of width f)) lent
  unfolding table_to_form_checked bytes_checked positive_checked
  tabulated_checked pos lent = rw (eq-eqb (length (table_of table_bytes f)) table_bytes tabulated_length, tabulated_steady pos, tabulated_form)

  -- what table to form makes of it: 6 where fewer elements are lent than the form has terms, and nothing else is refused
  pub tabulated_gives : Positive width f → (old new : List ℕ) (r : Result ℕ Refusal) → TableToForm (table_of table_bytes f) old new r
      → Gives (room_checked (length (form_of width f))) (length (form_of width f)) (form_of width f) old new r
  tabulated_gives pos old new r formed =
      let same = tabulated_checked pos (length old) in
      record {
        answer = formed.answer ∙ ap₂ (λ (c : Checked) (k : ℕ). and_then c (Ok k)) same (ap length tabulated_form);
        out = formed.out ∙ ap₂ (λ (c : Checked) (F : List ℕ). written c F old) same tabulated_form;
      }
