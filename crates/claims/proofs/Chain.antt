-- Demand 3 over what the calls write, and that what gives a form gives one which every call accepts that takes a form.
-- Assumes nothing.
use Rattle.refusals.specs.Refusals.{and_then}
use Rattle.std.specs.Prelude.{Result, Ok, Err}
use Rattle.refusals.specs.declared.Refusal.{Refusal}
use Rattle.refusals.specs.Refusals.{Checked}
use Prim.Native.Nat.{ℕ, ◌≤◌, ◌<◌}
use native.Mathlib.Omega.{arith}
use mathlib.Core.Path.{◌≡◌, refl, sym, ap, ◌∙◌}
use mathlib.Core.Bool.{Bool}
use mathlib.Core.List.{List, ◌++◌}
use mathlib.Core.Logic.{◌↔◌}
use lib.Dec.{leb}
use lib.ListN.{length, take, drop}
use borrow.Author.Tests.{leb-false}
use Rattle.limits.specs.Limits.{width, most_terms, most_samples, presets}
use Rattle.theory.specs.Forms.{form_of}
use Rattle.theory.specs.Signals.{Ends, held, Scan, filtered_at, cleaned}
use Rattle.theory.proofs.Canon.{form_valid}
use Rattle.refusals.specs.Refusals.{written}
use Rattle.refusals.specs.Shared.{scan_checked}
use Rattle.refusals.specs.Promise.{Gives}
use Rattle.refusals.proofs.Checks.{refuse_no, and_then_fine}
use Rattle.refusals.proofs.Shared.{scan_fine}
use Rattle.forms.specs.Check.{form_checked}
use Rattle.forms.proofs.Fine.{form_fine}
use Rattle.tables.specs.Tables.{form_in}
use Rattle.presets.specs.Presets.{preset_form, preset_checked, Preset}
use Rattle.presets.proofs.Terms.{preset_few}
use Rattle.scans.specs.Run.{run_checked, Clean}
use Rattle.recipes.specs.Judge.{recipe_checked}
use Rattle.recipes.specs.Meaning.{value_at}
use Rattle.runner.specs.Run.{ran, recipe_run_checked, Run}
use Rattle.compiler.specs.Compile.{compiled_form, compile_checked, Compile}
use Rattle.compiler.proofs.Demand.{run_is_clean, equal_forms_agree, agree_equal_forms}
use Rattle.files.proofs.Held.{held as held_by}
use Rattle.claims.specs.Words.{Samples, Agree, FormWritten, by_compile, by_table_to_form, by_preset, by_read}
use Rattle.claims.proofs.Outcomes.{done_given}

-- ---- a form that a call gives is accepted

-- the terms that a call wrote are the form of some function: they are accepted where they are at most 126
pub given_accepted : {check : ℕ → Checked} (f : ℕ → Bool) {old new : List ℕ} {n : ℕ}
    → Gives check (length (form_of width f)) (form_of width f) old new (Ok n) → n ≤ most_terms
    → form_checked width (take n new) ≡ Ok tt
given_accepted f g few =
    let d = done_given g in
    rw d.front (form_fine width (form_of width f) (form_valid width f) (omega (arith, d.number)))

-- ---- what compiling wrote

module _ {r old terms : List ℕ} {n : ℕ} (c : Compile r old terms (Ok n)) where
  pub compiled_fine : recipe_checked r ≡ Ok tt
  unfolding compile_checked
  compiled_fine = (and_then_fine (recipe_checked r) _ (done_given c.gives).fine).0

  pub compiled_front : take n terms ≡ compiled_form r
  compiled_front = (done_given c.gives).front

  -- by either ends rule their filter is what the recipe gives
  pub compile_faithful : (ends : Ends) (s : List ℕ) → Scan s → (x : ℕ) → x < length s
      → filtered_at ends (take n terms) s x ≡ value_at ends r s x
  compile_faithful ends s ok x l =
      ap (λ (F : List ℕ). filtered_at ends F s x) compiled_front ∙ (c.faithful compiled_fine).same ends s ok x l

  -- the form is asked for what the recipe is, and passes; the rest of the two orders is one
  same_check : n ≤ most_terms → (s : List ℕ) (lent : ℕ) → run_checked (take n terms) s lent ≡ recipe_run_checked r s lent
  unfolding run_checked recipe_run_checked compiled_form
  same_check few s lent = rw (given_accepted _ c.gives few, compiled_fine) refl

  is_scan : (s : List ℕ) (lent : ℕ) → Samples s → recipe_run_checked r s lent ≡ Ok tt → Scan s
  unfolding recipe_run_checked
  is_scan s lent small e =
      let rest = (and_then_fine (recipe_checked r) _ e).1 in
      let l = scan_fine most_samples (length s) (and_then_fine (scan_checked most_samples (length s)) _ rest).0 in
      record { nonempty = l.0; short = l.1; small = small }

  -- cleaning with the terms that compiling wrote is running the recipe, refusals included
  pub compile_clean_run : n ≤ most_terms → (s : List ℕ) {out new new' : List ℕ} {a a' : Result ℕ Refusal} → Samples s
      → Clean (take n terms) s out new a → Run r s out new' a' → (a ≡ a') × (new ≡ new')
  compile_clean_run few s {out} small p q =
      let same = same_check few s (length out) in (
        p.answer ∙ ap (λ (k : Checked). and_then k (Ok (length s))) same ∙ sym q.answer,
        p.out ∙ ap (λ (k : Checked). written k (cleaned held (take n terms) s) out) same
            ∙ go (recipe_run_checked r s (length out)) refl
            ∙ sym q.out,
      )
    where
      go : (k : Checked) → recipe_run_checked r s (length out) ≡ k
          → written k (cleaned held (take n terms) s) out ≡ written k (ran held r s) out
      go (Ok tt) e =
          ap (λ (l : List ℕ). l ++ drop (length l) out)
          (ap (λ (F : List ℕ). cleaned held F s) compiled_front ∙ run_is_clean held r compiled_fine s (is_scan s (length out) small e))
      go (Err x) e = refl

-- two recipes get equal terms exactly where they agree on every scan
pub equal_terms_agree : {r old terms r' old' terms' : List ℕ} {n n' : ℕ}
    → Compile r old terms (Ok n) → Compile r' old' terms' (Ok n') → (ends : Ends) → (take n terms ≡ take n' terms') ↔ Agree ends r r'
equal_terms_agree {r} {r' = r'} c c' ends = (
  λ e. equal_forms_agree ends r r' (compiled_fine c) (compiled_fine c') (sym (compiled_front c) ∙ e ∙ compiled_front c'),
  λ a. compiled_front c ∙ agree_equal_forms ends r r' (compiled_fine c) (compiled_fine c') a ∙ sym (compiled_front c'),
)

-- ---- a form that a call wrote is accepted

-- a preset has few terms
preset_short : (i : ℕ) {n : ℕ} {old terms : List ℕ} → Preset i old terms (Ok n) → n ≤ most_terms
unfolding preset_checked
preset_short i p =
    let d = done_given p in
    let low = refuse_no (leb presets i) _ (and_then_fine _ _ d.fine).0 in
    omega (arith, d.number, preset_few i (leb-false presets i low))

pub written_accepted : {terms : List ℕ} {n : ℕ} → FormWritten terms n → form_checked width (take n terms) ≡ Ok tt
unfolding compiled_form form_in preset_form
written_accepted (by_compile c few) = given_accepted _ c.gives few
written_accepted (by_table_to_form tb t few) = given_accepted _ t few
written_accepted (by_preset i p) = given_accepted _ p (preset_short i p)
written_accepted (by_read r) = let h = held_by r refl in rw h.terms_held h.readable.form
