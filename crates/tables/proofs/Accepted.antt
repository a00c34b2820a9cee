-- What a refused call leaves, and that a call is accepted exactly where what it was lent is as it should be.
-- Assumes nothing.
use Prim.Native.Nat.{ℕ, ◌≤◌}
use native.Mathlib.Omega.{arith}
use mathlib.Core.Path.{◌≡◌, refl}
use mathlib.Core.Bool.{false, not}
use mathlib.Core.List.{List, ◌++◌}
use lib.Dec.{eqb}
use lib.ListN.{length, drop}
use borrow.Author.Tests.{eqb-true, eq-eqb, not-false}
use Rattle.limits.specs.Limits.{width, patterns, table_bytes}
use Rattle.theory.specs.Lists.{any_below}
use Rattle.theory.specs.Forms.{holds}
use Rattle.theory.specs.Tables.{table_at, table_of, slips}
use Rattle.theory.proofs.Lists.{length-tab}
use Rattle.refusals.specs.Promise.{Gives}
use Rattle.refusals.specs.declared.Refusal.{Refusal}
use Rattle.refusals.specs.Refusals.{Checked}
use Rattle.std.specs.Prelude.{Ok, Err}
use Rattle.refusals.proofs.Checks.{refuse_no, and_then_fine, written_whole}
use Rattle.refusals.proofs.Shared.{room_fine, fine_room}
use Rattle.forms.specs.Check.{form_checked}
use Rattle.tables.specs.Tables.{bytes_checked, positive_checked, form_in, table_to_form_checked, form_to_table_checked}

-- a call that is refused keeps what it was given, whatever it would give
pub gives_refused : {A : Type 0} {check : ℕ → Checked} {n : ℕ} {given old : List A} {x : Refusal} → check (length old) ≡ Err x
    → Gives check n given old old (Err x)
gives_refused e = record { answer = rw e; out = rw e }

pub fine_bytes : (n : ℕ) → bytes_checked n ≡ Ok tt → n ≡ table_bytes
unfolding bytes_checked
fine_bytes n e = eqb-true n table_bytes (not-false (eqb n table_bytes) (refuse_no (not (eqb n table_bytes)) _ e))

pub fine_steady : (tb : List ℕ) → positive_checked tb ≡ Ok tt → any_below (slips width (table_at tb)) patterns ≡ false
unfolding positive_checked
fine_steady tb e = refuse_no (any_below (slips width (table_at tb)) patterns) _ e

-- a table has its bytes, slips nowhere, and its form has room
pub record Roomy (tb : List ℕ) (lent : ℕ) : Type 0 where
  pub whole : length tb ≡ table_bytes
  pub steady : any_below (slips width (table_at tb)) patterns ≡ false
  pub room : length (form_in tb) ≤ lent

pub fine_table : (tb : List ℕ) (lent : ℕ) → table_to_form_checked tb lent ≡ Ok tt → Roomy tb lent
unfolding table_to_form_checked positive_checked
fine_table tb lent e =
    let p = and_then_fine _ _ e in
    let q = and_then_fine _ _ p.1 in
    record {
      whole = fine_bytes (length tb) p.0;
      steady = refuse_no (any_below (slips width (table_at tb)) patterns) _ q.0;
      room = room_fine (length (form_in tb)) lent q.1;
    }

pub table_fine : (tb : List ℕ) (lent : ℕ) → Roomy tb lent → table_to_form_checked tb lent ≡ Ok tt
unfolding table_to_form_checked bytes_checked positive_checked
table_fine tb lent ok = rw (eq-eqb (length tb) table_bytes ok.whole, ok.steady, fine_room (length (form_in tb)) lent ok.room)

-- the terms are a form, and the slice lent for its table has a table's bytes
pub record Tabular (ts : List ℕ) (lent : ℕ) : Type 0 where
  pub form : form_checked width ts ≡ Ok tt
  pub whole : lent ≡ table_bytes

pub fine_form_to_table : (ts : List ℕ) (lent : ℕ) → form_to_table_checked ts lent ≡ Ok tt → Tabular ts lent
unfolding form_to_table_checked
fine_form_to_table ts lent e =
    let p = and_then_fine (form_checked width ts) _ e in
    record { form = p.0; whole = fine_bytes lent p.1 }

pub form_to_table_fine : (ts : List ℕ) (lent : ℕ) → Tabular ts lent → form_to_table_checked ts lent ≡ Ok tt
unfolding form_to_table_checked bytes_checked
form_to_table_fine ts lent ok = rw (ok.form, eq-eqb lent table_bytes ok.whole)

-- the truth table of a form
abbrev pub table_in : List ℕ → List ℕ
table_in ts = table_of table_bytes (holds ts)

pub table_length : (ts : List ℕ) → length (table_in ts) ≡ table_bytes
unfolding table_of
table_length ts = length-tab table_bytes _

-- the table fills the whole of a slice of its length
pub table_fills : (ts old : List ℕ) → length old ≡ table_bytes → table_in ts ++ drop (length (table_in ts)) old ≡ table_in ts
table_fills ts old h = written_whole (table_in ts) old refl (omega (arith, table_length ts))
