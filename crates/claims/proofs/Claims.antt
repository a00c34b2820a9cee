-- What users rely on: a sentence and a theorem each, proved by citing. All that is claimed is in specs/ and here. No call has a `requires`.
-- Assumes nothing.
use Rattle.files.specs.declared.Sizes.{Sizes}
use Rattle.files.specs.Files.{sizes}
use Rattle.std.specs.Prelude.{Result, Ok, Err}
use Rattle.refusals.specs.Refusals.{Checked}
use Prim.Native.Nat.{ℕ, ◌≤◌, ◌<◌}
use mathlib.Core.Path.{◌≡◌}
use mathlib.Core.List.{List, ◌++◌, Memᴰ}
use mathlib.Core.Logic.{◌↔◌}
use lib.ListN.{length, get_or, take, drop}
use Rattle.limits.specs.Limits.{width, patterns, table_bytes, most_terms, top, presets}
use Rattle.theory.specs.Sets.{has}
use Rattle.theory.specs.Orders.{counts}
use Rattle.theory.specs.Ranks.{ranked}
use Rattle.theory.specs.Forms.{holds, levels, value, Valid, Positive}
use Rattle.theory.specs.Tables.{table_at}
use Rattle.theory.specs.Signals.{Ends, Scan, filtered_at}
use Rattle.theory.proofs.Canon.{same_form}
use Rattle.refusals.specs.Promise.{Gives}
use Rattle.refusals.specs.declared.Refusal.{Refusal}
use Rattle.refusals.proofs.Decided.{gives_decided}
use Rattle.forms.specs.Check.{form_checked}
use Rattle.tables.specs.Tables.{positive_checked, TableToForm, FormToTable}
use Rattle.tables.proofs.Inverse.{form_table_form}
use Rattle.presets.specs.Presets.{three, preset_tables, near_in, preset_form, Preset}
use Rattle.presets.proofs.Rule.{member_positive, complete, ascending}
use Rattle.presets.proofs.Terms.{preset_holds, preset_few, three_enough}
use Rattle.scans.specs.Run.{Clean}
use Rattle.recipes.specs.Meaning.{value_at}
use Rattle.runner.specs.Run.{Run}
use Rattle.compiler.specs.Compile.{Compile}
use Rattle.files.specs.Files.{Read, Write}
use Rattle.files.specs.Causes.{Bytes}
use Rattle.files.proofs.Decided.{read_decided}
use Rattle.files.proofs.RoundTrips.{written_reads_back, read_alike}
use Rattle.claims.specs.Words.{Samples, around, three_at, Agree, FormWritten, passing}
use Rattle.claims.proofs.Outcomes.{refused_exactly, refused_keeps, read_keeps, form_exactly, positive_exactly, table_again}
use Rattle.claims.proofs.Chain.{compile_faithful, equal_terms_agree, compile_clean_run, written_accepted}
use Rattle.claims.proofs.Filters.{clean_levels, clean_largest, median_preset}
use Rattle.claims.proofs.Ranks.{rank_counts}

-- ---- demand 1: any input, the listed refusals exactly, and a refusal writes nothing
module _ {A : Type 0} {check : ℕ → Checked} {n : ℕ} {given old new : List A} {a : Result ℕ Refusal} (call : Gives check n given old new a) where
  -- A call that fills a slice refuses under a number, with a place, exactly when its order of refusals says so.
  pub refuses_exactly : (x : Refusal) → (a ≡ Err x) ↔ (check (length old) ≡ Err x)
  refuses_exactly = refused_exactly call

  -- Then every element of the slice is as it was.
  pub refusal_keeps : (x : Refusal) → a ≡ Err x → new ≡ old
  refusal_keeps = refused_keeps call

  -- One input has one outcome: two that the promise allows are equal, in the answer and in every element.
  pub one_outcome : {new' : List A} {a' : Result ℕ Refusal} → Gives check n given old new' a' → (a ≡ a') × (new ≡ new')
  one_outcome = gives_decided call

-- Reading fills two slices: a refusal leaves both as they were, and one input has one outcome too.
pub refused_read : {f s s' t t' : List ℕ} {a : Result Sizes Refusal} → Read f s s' t t' a → (x : Refusal) → a ≡ Err x → (s' ≡ s) × (t' ≡ t)
refused_read call = read_keeps call

pub one_read : {f s s₁ s₂ t t₁ t₂ : List ℕ} {a b : Result Sizes Refusal} → Read f s s₁ t t₁ a → Read f s s₂ t t₂ b → (a ≡ b) × (s₁ ≡ s₂) × (t₁ ≡ t₂)
one_read call other = read_decided call other

-- What passes 7 and 8 is a form of at most 126 terms, and each of these passes; 12 passes the positive tables and no other.
pub passes_form : (ts : List ℕ) → (form_checked width ts ≡ Ok tt) ↔ (Valid width ts × (length ts ≤ most_terms))
passes_form = form_exactly

pub passes_table : (tb : List ℕ) → (positive_checked tb ≡ Ok tt) ↔ Positive width (table_at tb)
passes_table = positive_exactly

-- ---- demand 2: the filter is the number of levels, and a file is its contents
module _ (form s : List ℕ) {old new : List ℕ} {n : ℕ} (call : Clean form s old new (Ok n)) where
  -- Cleaning writes at each sample the number of levels 1 to 65,535 whose cut makes the form's function 1 around it, the ends held.
  pub cleaned-levels : (x : ℕ) → x < length s → get_or new x 0 ≡ levels width top form (around s x)
  cleaned-levels = clean_levels form s call

  -- That number is the largest, over the terms, of the smallest sample that the term reaches.
  pub cleaned-largest : Samples s → (x : ℕ) → x < length s → get_or new x 0 ≡ value counts width 0 top form (around s x)
  cleaned-largest = clean_largest form s call

-- A file that was written reads back as the same samples and the same form, where there is room for them.
pub file_reads_back : (form scan : List ℕ) {old file s s' t t' : List ℕ} {n : ℕ} {a : Result Sizes Refusal}
    → Write form scan old file (Ok n) → Read file s s' t t' a → length scan ≤ length s → length form ≤ length t
    → (a ≡ Ok (sizes (length scan) (length form))) × (s' ≡ scan ++ drop (length scan) s) × (t' ≡ form ++ drop (length form) t)
file_reads_back = written_reads_back

-- A readable file is the only file for its contents: two from which the same samples and terms are read are one.
pub only_file : {f g s s₁ s₂ s₃ t t₁ t₂ t₃ : List ℕ} {m n : ℕ} → Bytes f → Bytes g → Read f s s₁ t t₁ (Ok (sizes m n))
    → Read g s₂ s₃ t₂ t₃ (Ok (sizes m n)) → take m s₁ ≡ take m s₃ → take n t₁ ≡ take n t₃ → f ≡ g
only_file = read_alike

-- ---- demand 3: one form for a recipe
module _ {r old terms : List ℕ} {n : ℕ} (call : Compile r old terms (Ok n)) where
  -- The terms that compiling writes give on every scan, at every sample, by either ends rule, what the recipe gives step by step.
  pub faithful : (ends : Ends) (s : List ℕ) → Scan s → (x : ℕ) → x < length s → filtered_at ends (take n terms) s x ≡ value_at ends r s x
  faithful = compile_faithful call

  -- Two recipes get equal terms exactly when they agree on every scan.
  pub equal_terms : {r' o t : List ℕ} {m : ℕ} → Compile r' o t (Ok m) → (ends : Ends) → (take n terms ≡ take m t) ↔ Agree ends r r'
  equal_terms = equal_terms_agree call

  -- Cleaning with them answers and writes what running the recipe does, refusals too; for at most 126 terms (no form has more: request 8).
  pub clean_is_run : n ≤ most_terms → (s : List ℕ) {out new new' : List ℕ} {a a' : Result ℕ Refusal} → Samples s → Clean (take n terms) s out new a
      → Run r s out new' a' → (a ≡ a') × (new ≡ new')
  clean_is_run = compile_clean_run call

-- Terms that compile, table to form, preset or read wrote are accepted by every call that takes a form.
pub written_form_passes : {terms : List ℕ} {n : ℕ} → FormWritten terms n → form_checked width (take n terms) ≡ Ok tt
written_form_passes = written_accepted

-- ---- forms, tables, presets and ranks
-- A form is the only one with its function.
pub one_form : (F G : List ℕ) → Valid width F → Valid width G → ((v : ℕ) → v < patterns → holds F v ≡ holds G v) → F ≡ G
one_form = same_form width

-- Form to table and table to form are inverse: each gives again what the other was given, with room for it; for at most 126 terms.
pub form_back : (F old tb old' new : List ℕ) (n : ℕ) (r : Result ℕ Refusal) → FormToTable F old tb (Ok n) → TableToForm tb old' new r
    → length F ≤ length old' → (r ≡ Ok n) × (new ≡ F ++ drop (length F) old')
form_back = form_table_form

pub table_back : (tb old new old' tb' : List ℕ) (n : ℕ) (r : Result ℕ Refusal) → Bytes tb → TableToForm tb old new (Ok n)
    → FormToTable (take n new) old' tb' r → n ≤ most_terms → length old' ≡ table_bytes → (r ≡ Ok n) × (tb' ≡ tb)
table_back = table_again

-- The twenty preset tables are the positive functions of three samples, every one, ascending.
pub preset_tables_lem : ((t : ℕ) → t < 256 → Memᴰ t preset_tables ↔ Positive three (has t))
    × ((i j : ℕ) → i < j → j < presets → get_or preset_tables i 0 < get_or preset_tables j 0)
preset_tables_lem = (λ t l. (member_positive t, complete t l), ascending)

-- Preset i has the i-th table as its function on the offsets -1, 0 and 1, and at most three terms.
pub preset_is : (i : ℕ) → i < presets
    → ((v : ℕ) → v < patterns → holds (preset_form i) v ≡ has (get_or preset_tables i 0) (near_in v)) × (length (preset_form i) ≤ 3)
preset_is i l = (preset_holds i l, preset_few i l)

-- So three elements are always enough.
pub three_fit : {i : ℕ} {o t : List ℕ} {a : Result ℕ Refusal} → i < presets → 3 ≤ length o → Preset i o t a → a ≡ Ok (length (preset_form i))
three_fit = three_enough

-- Preset 10 is the median: at each sample the second largest of the samples at the offsets -1, 0 and 1.
pub preset_median : (ends : Ends) (s : List ℕ) → Samples s → (x : ℕ)
    → filtered_at ends (preset_form 10) s x ≡ ranked counts 2 0 (λ v. v) (three_at ends s x)
preset_median = median_preset

-- The k-th largest is at least t exactly when at least k of the values are.
pub kth_largest : {X : Type 0} (k d : ℕ) (f : X → ℕ) (xs : List X) → 0 < k → k ≤ length xs
    → (t : ℕ) → (t ≤ ranked counts k d f xs) ↔ (k ≤ passing (λ x. counts t (f x)) xs)
kth_largest = rank_counts
