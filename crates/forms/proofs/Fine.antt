-- The check finds nothing exactly where the list is a form of at most the most terms.
-- Assumes nothing.
use Prim.Native.Nat.{ℕ, ◌≤◌}
use mathlib.Core.Path.{◌≡◌}
use mathlib.Core.List.{List}
use lib.Dec.{ltb}
use lib.ListN.{length}
use borrow.Author.Tests.{ltb-false, le-ltb}
use Rattle.limits.specs.Limits.{most_terms}
use Rattle.theory.specs.Lists.{any_below}
use Rattle.theory.specs.Forms.{Valid, is_bad}
use Rattle.theory.proofs.Lists.{any_below_no, any_below_none}
use Rattle.theory.proofs.Valid.{fine_valid, valid_fine}
use Rattle.std.specs.Prelude.{Ok}
use Rattle.refusals.proofs.Checks.{refuse_no, and_then_fine}
use Rattle.forms.specs.Check.{terms_checked, form_checked}

module _ (w : ℕ) (ts : List ℕ) where
  pub fine_form : form_checked w ts ≡ Ok tt → Valid w ts
  unfolding form_checked terms_checked
  fine_form e =
      let none = refuse_no (any_below (is_bad w ts) (length ts)) _ (and_then_fine _ _ e).0 in
      fine_valid w ts (λ i l. any_below_no (is_bad w ts) (length ts) none i l)

  pub fine_few : form_checked w ts ≡ Ok tt → length ts ≤ most_terms
  unfolding form_checked
  fine_few e = ltb-false most_terms (length ts) (refuse_no (ltb most_terms (length ts)) _ (and_then_fine (terms_checked w ts) _ e).1)

  pub form_fine : Valid w ts → length ts ≤ most_terms → form_checked w ts ≡ Ok tt
  unfolding form_checked terms_checked
  form_fine ok few = rw (any_below_none (is_bad w ts) (length ts) (valid_fine w ts ok), le-ltb most_terms (length ts) few)
