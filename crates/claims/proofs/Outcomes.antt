-- What an outcome of a call tells, of a refusal and of what was given; and what passes the checks of a form and of a table.
-- Assumes nothing.
use Rattle.std.specs.Prelude.{Result, Ok, Err}
use Rattle.refusals.specs.Refusals.{Checked}
use Prim.Native.Nat.{ℕ, ◌≤◌}
use mathlib.Core.Path.{◌≡◌, sym, ap, ◌∙◌}
use mathlib.Core.List.{List}
use mathlib.Core.Logic.{◌↔◌}
use lib.ListN.{length, take}
use lib.Seq.{take_at}
use Rattle.limits.specs.Limits.{width, patterns, table_bytes, most_terms}
use Rattle.theory.specs.Lists.{any_below}
use Rattle.theory.specs.Forms.{Valid, Positive}
use Rattle.theory.specs.Tables.{table_at, slips}
use Rattle.theory.proofs.Tables.{fine_positive, positive_fine}
use Rattle.refusals.specs.Refusals.{and_then, written}
use Rattle.refusals.specs.Promise.{Gives}
use Rattle.refusals.specs.declared.Refusal.{Refusal}
use Rattle.refusals.proofs.Checks.{refuse_no, done_fine}
use Rattle.forms.specs.Check.{form_checked}
use Rattle.forms.proofs.Fine.{fine_form, fine_few, form_fine}
use Rattle.tables.specs.Tables.{positive_checked, TableToForm, FormToTable}
use Rattle.tables.proofs.Accepted.{fine_table}
use Rattle.tables.proofs.Inverse.{table_form_table}
use Rattle.files.specs.declared.Sizes.{Sizes}
use Rattle.files.specs.Layout.{file_samples, file_terms}
use Rattle.files.specs.Files.{Read}
use Rattle.files.specs.Causes.{Bytes}
use Rattle.files.proofs.Held.{refused}

refused_by : (c : Checked) (n : ℕ) (x : Refusal) → (and_then c (Ok n) ≡ Err x) ↔ (c ≡ Err x)
refused_by (Ok tt) n x = (λ e. absurd (cc), λ e. absurd (cc))
refused_by (Err y) n x = (λ e. cc, λ e. cc)

module _ {A : Type 0} {check : ℕ → Checked} {n : ℕ} {given old new : List A} {a : Result ℕ Refusal} (call : Gives check n given old new a) where
  -- a call refuses exactly where its check does
  pub refused_exactly : (x : Refusal) → (a ≡ Err x) ↔ (check (length old) ≡ Err x)
  refused_exactly x =
      let by = refused_by (check (length old)) n x in
      (λ e. by.0 (sym call.answer ∙ e), λ e. call.answer ∙ by.1 e)

  -- and then keeps every element
  pub refused_keeps : (x : Refusal) → a ≡ Err x → new ≡ old
  refused_keeps x e = call.out ∙ ap (λ (c : Checked). written c given old) ((refused_exactly x).0 e)

-- what a call gave stands at the start of the slice
pub record Given {A : Type 0} (check : ℕ → Checked) (given old new : List A) (n : ℕ) : Type 0 where
  pub fine : check (length old) ≡ Ok tt
  pub number : n ≡ length given
  pub front : take n new ≡ given

pub done_given : {A : Type 0} {check : ℕ → Checked} {given old new : List A} {n : ℕ}
    → Gives check (length given) given old new (Ok n) → Given check given old new n
done_given {check = check} {given = given} {old = old} {n = n} g =
    let d = done_fine (check (length old)) (length given) n g.answer in
    record { fine = d.0; number = d.1; front = ap (take n) (rw d.0 at g.out) ∙ take_at given _ n (sym d.1) }

-- a read that is refused keeps the elements of both its slices
pub read_keeps : {f samples samples' terms terms' : List ℕ} {a : Result Sizes Refusal} → Read f samples samples' terms terms' a
    → (x : Refusal) → a ≡ Err x → (samples' ≡ samples) × (terms' ≡ terms)
read_keeps {f} {samples} {terms = terms} call x e =
    let same = refused call e in (
      call.samples_out ∙ ap (λ (c : Checked). written c (file_samples f) samples) same,
      call.terms_out ∙ ap (λ (c : Checked). written c (file_terms f) terms) same,
    )

-- 7 and 8 pass a form of at most 126 terms, and it alone
pub form_exactly : (ts : List ℕ) → (form_checked width ts ≡ Ok tt) ↔ (Valid width ts × (length ts ≤ most_terms))
form_exactly ts = (λ e. (fine_form width ts e, fine_few width ts e), λ ok. form_fine width ts ok.0 ok.1)

-- 12 passes a positive table, and it alone
pub positive_exactly : (tb : List ℕ) → (positive_checked tb ≡ Ok tt) ↔ Positive width (table_at tb)
unfolding positive_checked
positive_exactly tb = (
  λ e. fine_positive width (table_at tb) (refuse_no (any_below (slips width (table_at tb)) patterns) _ e),
  λ ok. rw (positive_fine width (table_at tb) ok),
)

-- a table of bytes that is accepted is given again by its form
pub table_again : (tb old new old' tb' : List ℕ) (n : ℕ) (r : Result ℕ Refusal) → Bytes tb → TableToForm tb old new (Ok n)
    → FormToTable (take n new) old' tb' r → n ≤ most_terms → length old' ≡ table_bytes → (r ≡ Ok n) × (tb' ≡ tb)
table_again tb old new old' tb' n r b to =
    let whole = (fine_table tb (length old) (done_given to).fine).whole in
    table_form_table tb old new old' tb' n r (record { whole = whole; byte = λ j l. b j }) to
