-- The twelve worked cases hold. Each is tested by computing (a form by its function on all patterns, a cleaned scan by its values), and one
-- law turns the test into the claim.
-- Assumes nothing.
use Rattle.std.specs.Prelude.{Ok, Err}
use Rattle.refusals.specs.Refusals.{Checked}
use Prim.Native.Nat.{ℕ, suc, zero}
use native.Mathlib.Omega.{arith}
use mathlib.Core.Path.{◌≡◌, refl, ◌∙◌}
use mathlib.Core.Bool.{Bool, true, false, ◌&&◌}
use mathlib.Core.List.{List, [], ◌∷◌, Memᴰ}
use mathlib.Core.Option.{bind}
use lib.IntN.{pos}
use lib.ListN.{length}
use lib.Dec.{leb, eqb}
use borrow.Author.Tests.{leb-true, eqb-true}
use Rattle.limits.specs.Limits.{width, top}
use Rattle.theory.specs.Lists.{all, any, keep, tab, from, bit}
use Rattle.theory.specs.Sets.{has, gather, is_set, within, positions}
use Rattle.theory.specs.Orders.{larger, smaller, largest, smallest, counts}
use Rattle.theory.specs.Ranks.{insert, falling, ranked, pick}
use Rattle.theory.specs.Forms.{holds, value}
use Rattle.theory.specs.Signals.{held, between, endless, window, wide, offset, offsets, size, seen, cleaned, spread, leftmost, rightmost}
use Rattle.theory.proofs.Tests.{and_left, and_right}
use Rattle.theory.proofs.Lists.{all_at, tab_cong}
use Rattle.theory.proofs.Canon.{is_form, is_form_lem, sound, sound_valid, valid_terms, alike}
use Rattle.theory.proofs.Demands.{Samples, filtered_value}
use Rattle.recipes.specs.Steps.{decoded_of, step_at, rank_fits, odd_set}
use Rattle.recipes.specs.Machine.{added, replaced, joined, eroded, dilated, ranked_by, act, signals, both_reach, reaches}
use Rattle.recipes.specs.Judge.{in_reach, onward, stepped, judged_from, bad_length, recipe_checked}
use Rattle.recipes.specs.Meaning.{done, run, made, value_at, truth_of}
use Rattle.runner.specs.Run.{ran}
use Rattle.compiler.specs.Compile.{compiled_form}
use Rattle.worked.specs.Cases.{Case, compiles, cleans, runs, Claim, cases}

-- a check that finds nothing
is_fine : Checked → Bool
is_fine (Ok done) = true
is_fine (Err r) = false

fine_is : (c : Checked) → is_fine c ≡ true → c ≡ Ok tt
unfolding is_fine
fine_is (Ok tt) e = refl
fine_is (Err r) e = let z : ◌≡◌ {A = ℕ} 0 1 = cc in absurd (omega arith)

-- two lists of numbers are one
same_list : List ℕ → List ℕ → Bool
same_list [] [] = true
same_list [] (y ∷ ys) = false
same_list (x ∷ xs) [] = false
same_list (x ∷ xs) (y ∷ ys) = eqb x y && same_list xs ys

same_list_lem : (xs ys : List ℕ) → same_list xs ys ≡ true → xs ≡ ys
unfolding same_list
same_list_lem [] [] e = refl
same_list_lem [] (y ∷ ys) e = cc
same_list_lem (x ∷ xs) [] e = cc
same_list_lem (x ∷ xs) (y ∷ ys) e =
    let h = eqb-true x y (and_left _ _ e) in
    let t = same_list_lem xs ys (and_right (eqb x y) _ e) in
    cc

-- every sample is at most the top
all_small : List ℕ → Bool
all_small s = all (λ v. leb v top) s

all_small_lem : (s : List ℕ) → all_small s ≡ true → Samples s
unfolding all_small all
all_small_lem [] e i = omega arith
all_small_lem (x ∷ xs) e zero = leb-true x top (and_left _ _ e)
all_small_lem (x ∷ xs) e (suc i) = all_small_lem xs (and_right (leb x top) _ e) i

-- the filter's values, by the largest of the smallest
values : List ℕ → List ℕ → List ℕ
values form s = tab (length s) (λ x. value counts width 0 top form (seen window (endless 0 held s) (pos x)))

values_cleaned : (form s : List ℕ) → sound width form ≡ true → all_small s ≡ true → cleaned held form s ≡ values form s
unfolding cleaned values
values_cleaned form s e h =
    tab_cong (length s) _ _ (λ x l. filtered_value held form s (valid_terms width form (sound_valid width form e)) (all_small_lem s h) x)

-- the test of a case
passes : Case → Bool
passes (compiles recipe form) = is_fine (recipe_checked recipe) && is_form width (truth_of recipe) form
passes (cleans form scan out) = sound width form && (all_small scan && same_list (values form scan) out)
passes (runs recipe scan out) = is_fine (recipe_checked recipe) && same_list (ran held recipe scan) out

tested : all passes cases ≡ true
unfolding passes is_fine same_list all_small values is_form sound alike all any keep tab from bit has gather within positions
    larger smaller largest smallest insert falling ranked pick holds value between endless window wide offset offsets size seen
    spread is_set leftmost rightmost decoded_of step_at rank_fits odd_set added replaced joined eroded dilated ranked_by act signals
    both_reach reaches
    in_reach onward stepped judged_from bad_length recipe_checked bind done run made value_at truth_of ran
tested = refl

passes_claim : (c : Case) → passes c ≡ true → Claim c
unfolding passes compiled_form
passes_claim (compiles recipe form) e =
    let fine = is_fine (recipe_checked recipe) in
    (fine_is (recipe_checked recipe) (and_left fine _ e), is_form_lem width (truth_of recipe) form (and_right fine _ e))
passes_claim (cleans form scan out) e =
    let r = and_right (sound width form) _ e in
    values_cleaned form scan (and_left _ _ e) (and_left _ _ r) ∙ same_list_lem (values form scan) out (and_right (all_small scan) _ r)
passes_claim (runs recipe scan out) e =
    let fine = is_fine (recipe_checked recipe) in
    (fine_is (recipe_checked recipe) (and_left fine _ e), same_list_lem (ran held recipe scan) out (and_right fine _ e))

pub worked : (c : Case) → Memᴰ c cases → Claim c
worked c m = passes_claim c (all_at passes tested m)
