-- Demand 3: an accepted recipe's form filters every scan as the recipe does, and two accepted recipes get equal forms exactly where they
-- agree on every scan; each by either ends rule.
-- Assumes nothing.
use Rattle.std.specs.Prelude.{Ok}
use Prim.Native.Nat.{ℕ, ◌<◌}
use mathlib.Core.Path.{◌≡◌, sym, ap, ◌∙◌}
use mathlib.Core.List.{List}
use lib.ListN.{length}
use Rattle.limits.specs.Limits.{width}
use Rattle.theory.specs.Forms.{form_of}
use Rattle.theory.specs.Signals.{Ends, Scan, cleaned, filtered_at, window}
use Rattle.theory.proofs.Plans.{truth}
use Rattle.theory.proofs.Lists.{tab_cong}
use Rattle.theory.proofs.Canon.{form_valid, form_cong}
use Rattle.theory.proofs.Demands.{plan_filter, same_form_agree, agree_same_form}
use Rattle.recipes.specs.Judge.{recipe_checked}
use Rattle.recipes.specs.Meaning.{value_at, truth_of}
use Rattle.recipes.proofs.Plans.{plan_of, value_plan, truth_plan}
use Rattle.recipes.proofs.Accepted.{plan_fits}
use Rattle.runner.specs.Run.{ran}
use Rattle.compiler.specs.Compile.{compiled_form, Faithful}

-- the form of a recipe is that of its plan
form_plan : (r : List ℕ) → compiled_form r ≡ form_of width (truth window (plan_of r))
unfolding compiled_form
form_plan r = form_cong width _ _ (λ v l. truth_plan r v)

pub accepted_faithful : (r : List ℕ) → recipe_checked r ≡ Ok tt → Faithful r
unfolding compiled_form
accepted_faithful r fine = record {
  form = form_valid width (truth_of r);
  same = λ ends s ok x l.
      ap (λ (F : List ℕ). filtered_at ends F s x) (form_plan r)
      ∙ plan_filter ends (plan_of r) (plan_fits r fine) s ok.small x
      ∙ sym (value_plan ends r s x);
}

module _ (ends : Ends) where
  -- running directly is cleaning with the compiled form
  pub run_is_clean : (r : List ℕ) → recipe_checked r ≡ Ok tt → (s : List ℕ) → Scan s → cleaned ends (compiled_form r) s ≡ ran ends r s
  unfolding cleaned ran
  run_is_clean r fine s ok = tab_cong (length s) _ _ ((accepted_faithful r fine).same ends s ok)

  -- ---- two recipes

  -- they give the same at every sample of every scan
  abbrev pub Agree : List ℕ → List ℕ → Type 0
  Agree r r' = (s : List ℕ) → Scan s → (x : ℕ) → x < length s → value_at ends r s x ≡ value_at ends r' s x

  module _ (r r' : List ℕ) (fine : recipe_checked r ≡ Ok tt) (fine' : recipe_checked r' ≡ Ok tt) where
    pub equal_forms_agree : compiled_form r ≡ compiled_form r' → Agree r r'
    equal_forms_agree q s ok x l =
        value_plan ends r s x
        ∙ same_form_agree ends (plan_of r) (plan_of r') (plan_fits r fine) (plan_fits r' fine')
        (sym (form_plan r) ∙ q ∙ form_plan r') s ok x l
        ∙ sym (value_plan ends r' s x)

    pub agree_equal_forms : Agree r r' → compiled_form r ≡ compiled_form r'
    agree_equal_forms f =
        form_plan r
        ∙ agree_same_form ends (plan_of r) (plan_of r') (plan_fits r fine) (plan_fits r' fine')
        (λ s ok x l. sym (value_plan ends r s x) ∙ f s ok x l ∙ value_plan ends r' s x)
        ∙ sym (form_plan r')
