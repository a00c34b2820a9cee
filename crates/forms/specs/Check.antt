-- The form check: 7, then 8. A term is a set of the window's w positions.
use Rattle.std.specs.Prelude.{ℕ, List, length, ltb}
use Rattle.limits.specs.Limits.{most_terms}
use Rattle.theory.specs.Lists.{first, any_below}
use Rattle.theory.specs.Forms.{is_bad}
use Rattle.refusals.specs.declared.Refusal.TheVariants.{BadTerm, TermCount}
use Rattle.refusals.specs.Refusals.{Checked, refuse_if, and_then}

-- 7 at the first bad index
unfoldable pub terms_checked : ℕ → List ℕ → Checked
terms_checked w ts = refuse_if (any_below (is_bad w ts) (length ts)) (BadTerm (first (is_bad w ts) (length ts)))

-- 7, then 8 over the most terms
unfoldable pub form_checked : ℕ → List ℕ → Checked
form_checked w ts = and_then (terms_checked w ts) (refuse_if (ltb most_terms (length ts)) (TermCount (length ts)))
