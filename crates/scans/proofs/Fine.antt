-- What a call that is not refused knows of its input, and what it then promises.
-- Assumes nothing.
use Prim.Native.Nat.{ℕ, ◌≤◌}
use native.Mathlib.Omega.{arith}
use mathlib.Core.Path.{◌≡◌, sym, ap, ◌∙◌}
use mathlib.Core.List.{List}
use lib.ListN.{length, get_or}
use Rattle.limits.specs.Limits.{width, most_samples}
use Rattle.theory.specs.Lists.{tab}
use Rattle.theory.specs.Forms.{Valid}
use Rattle.theory.specs.Signals.{held, filtered_at}
use Rattle.theory.proofs.Signals.{before, after}
use Rattle.theory.proofs.Lists.{length-tab}
use Rattle.theory.proofs.Demands.{Samples}
use Rattle.refusals.specs.Promise.{Gives}
use Rattle.refusals.specs.Shared.{scan_checked}
use Rattle.std.specs.Prelude.{Ok, Option}
use Rattle.refusals.proofs.Checks.{and_then_fine, written_whole}
use Rattle.refusals.proofs.Shared.{scan_fine, lent_fine}
use Rattle.forms.specs.Check.{form_checked}
use Rattle.forms.proofs.Fine.{fine_form}
use Rattle.scans.specs.Run.{root_checked, run_checked, root_found, Root}
use Rattle.scans.specs.Private.{value_around, all_left}
use Rattle.scans.proofs.Windows.{value_filter}

module _ (ts s : List ℕ) where
  -- the root question: the terms are a form, and there is a sample
  pub root_fine : root_checked ts s ≡ Ok tt → Valid width ts × (1 ≤ length s)
  unfolding root_checked
  root_fine e =
      let form = and_then_fine (form_checked width ts) _ e in
      (fine_form width ts form.0, (scan_fine most_samples (length s) form.1).0)

  -- its answer then speaks of the filter
  pub root_gives : {l r : ℕ} {found : Option ℕ} → form_checked width ts ≡ Ok tt → scan_checked most_samples (length s) ≡ Ok tt
      → (l ≡ before 0 held s) × (r ≡ after 0 held s) → Samples s → found ≡ root_found (value_around l r ts s) s → Root ts s (Ok found)
  unfolding root_checked
  root_gives form scan ends small q =
      rw (form, scan)
      (ap (λ (a : Option ℕ). Ok a) (q ∙ ap (λ (v : ℕ → ℕ). root_found v s) (value_filter held ts s ends.0 ends.1 (fine_form width ts form) small)))

  -- a run or a residue: the terms are a form, there is a sample, and as many elements are lent as there are samples
  pub run_fine : (lent : ℕ) → run_checked ts s lent ≡ Ok tt → Valid width ts × (1 ≤ length s) × (lent ≡ length s)
  unfolding run_checked
  run_fine lent e =
      let form = and_then_fine (form_checked width ts) _ e in
      let scan = and_then_fine (scan_checked most_samples (length s)) _ form.1 in
      (fine_form width ts form.0, (scan_fine most_samples (length s) scan.0).0, lent_fine (length s) lent scan.1)

  -- it then gives what it makes of each sample and its filtered value, and the slice holds that alone
  pub run_gives : {A : Type 0} (old : List A) (make : ℕ → ℕ → A) {l r : ℕ} {new : List A} → run_checked ts s (length old) ≡ Ok tt
      → (l ≡ before 0 held s) × (r ≡ after 0 held s) → Samples s → new ≡ all_left l r make ts s
      → Gives (run_checked ts s) (length s) (tab (length s) (λ x. make (get_or s x 0) (filtered_at held ts s x))) old new (Ok (length s))
  run_gives {A} old make {new = new} e ends small filled =
      let fine = run_fine (length old) e in
      let given : List A = tab (length s) (λ x. make (get_or s x 0) (filtered_at held ts s x)) in
      let all : length given ≡ length s = length-tab _ _ in
      let is : new ≡ given =
      filled ∙ ap (λ (v : ℕ → ℕ). tab (length s) (λ x. make (get_or s x 0) (v x))) (value_filter held ts s ends.0 ends.1 fine.0 small)
      in
      record { answer = rw e; out = is ∙ sym (written_whole given old e (omega arith)) }
