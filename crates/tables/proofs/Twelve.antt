-- Refusal 12 is given exactly for a table of 64 bytes that is not positive, at the first pattern on which it slips.
-- Assumes nothing.
use mathlib.Core.Path.{◌≡◌, refl, sym, ◌∙◌}
use mathlib.Core.Bool.{Bool, true, false, not}
use mathlib.Core.List.{List}
use mathlib.Core.Logic.{◌⊎◌, inl, inr}
use Prim.Native.Nat.{ℕ}
use lib.Dec.{eqb, ltb}
use lib.ListN.{length}
use borrow.Author.Tests.{eqb-true, eq-eqb}
use Rattle.limits.specs.Limits.{width, patterns, table_bytes}
use Rattle.theory.specs.Lists.{first, any_below}
use Rattle.theory.specs.Forms.{Positive}
use Rattle.theory.specs.Tables.{table_at, slips}
use Rattle.theory.proofs.Tests.{which, not_both}
use Rattle.theory.proofs.Tables.{fine_positive, positive_fine}
use Rattle.refusals.specs.Refusals.{refuse_if, and_then}
use Rattle.refusals.specs.Shared.{room_checked}
use Rattle.refusals.specs.declared.Refusal.{Refusal}
use Rattle.refusals.specs.declared.Refusal.TheVariants.{TermsLent, NotPositive, TableLength}
use Rattle.std.specs.Prelude.{Result}
use Rattle.std.specs.Prelude.{Ok, Err}
use Rattle.tables.specs.Tables.{bytes_checked, positive_checked, form_in, table_to_form_checked, TableToForm}

-- not positive, and v is the first slip
pub record Slipping (tb : List ℕ) (v : ℕ) : Type 0 where
  pub whole : length tb ≡ table_bytes
  pub slippery : Positive width (table_at tb) → ⊥
  pub least : v ≡ first (slips width (table_at tb)) patterns

module _ (tb old new : List ℕ) (r : Result ℕ Refusal) (formed : TableToForm tb old new r) where
  pub twelve : (v : ℕ) → r ≡ Err (NotPositive v) → Slipping tb v
  unfolding table_to_form_checked bytes_checked positive_checked room_checked
  twelve v e = go (eqb (length tb) table_bytes) slipping (ltb (length old) needed) refl refl (sym formed.answer ∙ e)
    where
      needed : ℕ
      needed = length (form_in tb)

      least : ℕ
      least = first (slips width (table_at tb)) patterns

      slipping : Bool
      slipping = any_below (slips width (table_at tb)) patterns

      go : (a b c : Bool) → eqb (length tb) table_bytes ≡ a → slipping ≡ b
          → and_then (and_then (refuse_if (not a) (TableLength (length tb))) (and_then (refuse_if b (NotPositive least)) (refuse_if c (TermsLent needed)))) (Ok needed)
          ≡ Err (NotPositive v)
          → Slipping tb v
      go false b c p q k = absurd (cc)
      go true true c p q k = record {
        whole = eqb-true (length tb) table_bytes p;
        slippery = λ pos. not_both q (positive_fine width (table_at tb) pos);
        least = cc;
      }
      go true false true p q k = absurd (cc)
      go true false false p q k = absurd (cc)

  pub slipping_twelve : (v : ℕ) → Slipping tb v → r ≡ Err (NotPositive v)
  unfolding table_to_form_checked bytes_checked positive_checked
  slipping_twelve v s = formed.answer ∙ rw (eq-eqb (length tb) table_bytes s.whole, slip (which slipping), s.least)
    where
      slipping : Bool
      slipping = any_below (slips width (table_at tb)) patterns

      slip : (slipping ≡ true) ⊎ (slipping ≡ false) → slipping ≡ true
      slip (inl q) = q
      slip (inr q) = absurd (s.slippery (fine_positive width (table_at tb) q))
