-- What a file that can be read has counted: its form runs on its scan, and the counts go by the residues of the scan alone.
-- Assumes nothing.
use Rattle.std.specs.Prelude.{Result, Ok, Err}
use Rattle.refusals.specs.declared.Refusal.{Refusal}
use Rattle.refusals.specs.Refusals.{Checked}
use mathlib.Core.Path.{◌≡◌, refl, sym, ap, ◌∙◌}
use mathlib.Core.List.{List}
use Prim.Native.Nat.{ℕ, ◌<◌, ◌≤◌}
use native.Mathlib.Omega.{arith}
use lib.ListN.{length, get_or}
use lib.IntN.{ℤ, pos, ◌-ℤ◌}
use Rattle.limits.specs.Limits.{width, most_samples, most_terms}
use Rattle.theory.specs.Lists.{bit}
use Rattle.theory.specs.Signals.{Ends, held, filtered_at, cleaned, residue_at}
use Rattle.theory.proofs.Lists.{length-tab, get_or-tab}
use Rattle.refusals.specs.Shared.{scan_checked, lent_checked}
use Rattle.refusals.proofs.Checks.{and_then_fine, written_whole}
use Rattle.refusals.proofs.Shared.{scan_fine, fine_scan, lent_fine, fine_lent}
use Rattle.forms.specs.Check.{form_checked}
use Rattle.forms.proofs.Fine.{fine_few}
use Rattle.scans.specs.Run.{run_checked, Clean}
use Rattle.files.specs.Layout.{counts_family, file_samples, file_terms}
use Rattle.files.specs.Files.{file_checked, read_checked, Read}
use Rattle.files.proofs.Held.{refused}
use Rattle.files.proofs.Layouts.{samples_counted, terms_counted}
use Rattle.files.proofs.Accepts.{Readable, fine_file, slices_fine}
use Rattle.reports.specs.Counts.{is_change, kind_of, above, below, counts_of, file_counted}
use Rattle.reports.proofs.Sums.{sum_cong}
use Rattle.reports.proofs.Spikes.{runs_cong}

-- a form and a scan that a file holds are run
pub runs : (f : List ℕ) → Readable counts_family f → run_checked (file_terms f) (file_samples f) (length (file_samples f)) ≡ Ok tt
unfolding run_checked
runs f r =
    let n = length (file_samples f) in
    let count = samples_counted f in
    rw (r.form, fine_scan most_samples n (omega (arith, r.nonempty)) (omega (arith, r.short)), fine_lent n n refl)

-- a run that is accepted has no more samples than allowed, and as many elements lent
pub run_short : (form scan : List ℕ) (lent : ℕ) → run_checked form scan lent ≡ Ok tt → (length scan ≤ most_samples) × (lent ≡ length scan)
unfolding run_checked
run_short form scan lent e =
    let n = length scan in
    let a = and_then_fine (scan_checked most_samples n) (lent_checked n lent) (and_then_fine (form_checked width form) _ e).1 in
    ((scan_fine most_samples n a.0).1, lent_fine n lent a.1)

-- it fills the slice with the cleaned values
pub run_cleaned : (form scan old new : List ℕ) (a : Result ℕ Refusal) → Clean form scan old new a → run_checked form scan (length old) ≡ Ok tt
    → new ≡ cleaned held form scan
unfolding cleaned
run_cleaned form scan old new a r e =
    let n = length-tab (length scan) (filtered_at held form scan) in
    let fit = (run_short form scan (length old) e).1 in
    r.out ∙ written_whole (cleaned held form scan) old e (omega arith)

-- room for the longest scan and the longest form is enough
pub room_enough : (f : List ℕ) (samples terms : ℕ) → most_samples ≤ samples → most_terms ≤ terms
    → read_checked counts_family f samples terms ≡ file_checked counts_family f
unfolding read_checked
room_enough f samples terms h k = go (file_checked counts_family f) refl
  where
    go : (c : Checked) → file_checked counts_family f ≡ c → read_checked counts_family f samples terms ≡ file_checked counts_family f
    go (Ok tt) e =
        let r = fine_file counts_family f e in
        let few = fine_few width (file_terms f) r.form in
        rw e (slices_fine counts_family f samples terms (record {
          for_terms = omega (arith, few, terms_counted f);
          for_samples = omega (arith, r.short);
        }))
    go (Err q) e = rw e

-- equal residues, equal counts
pub counts_cong : (n : ℕ) (r q : ℕ → ℤ) → ((x : ℕ) → x < n → r x ≡ q x) → counts_of n r ≡ counts_of n q
unfolding counts_of
counts_cong n r q e = λ i. record {
  samples = n;
  changed = sum_cong n (λ x. bit (is_change (r x))) (λ x. bit (is_change (q x))) (λ x h. ap (λ (z : ℤ). bit (is_change z)) (e x h)) i;
  spikes = runs_cong n (λ x. kind_of (r x)) (λ x. kind_of (q x)) (λ x h. ap kind_of (e x h)) i;
  up = sum_cong n (λ x. above (r x)) (λ x. above (q x)) (λ x h. ap above (e x h)) i;
  down = sum_cong n (λ x. below (r x)) (λ x. below (q x)) (λ x h. ap below (e x h)) i;
}

-- a scan less its cleaned values has the residues
pub cleaned_counts : (ends : Ends) (form scan : List ℕ)
    → counts_of (length scan) (λ x. pos (get_or scan x 0) -ℤ pos (get_or (cleaned ends form scan) x 0))
    ≡ counts_of (length scan) (residue_at ends form scan)
unfolding cleaned residue_at
cleaned_counts ends form scan =
    counts_cong (length scan) _ (residue_at ends form scan)
    (λ x h. ap (λ (v : ℕ). pos (get_or scan x 0) -ℤ pos v) (get_or-tab 0 (length scan) (filtered_at ends form scan) x h))

-- a read with room that is refused, is refused as counting is
pub read_refused : {f samples samples' terms terms' : List ℕ} {q : Refusal} → Read f samples samples' terms terms' (Err q)
    → most_samples ≤ length samples → most_terms ≤ length terms → file_counted f ≡ Err q
read_refused {f} {samples} {terms = terms} r h k =
    rw (sym (room_enough f (length samples) (length terms) h k) ∙ refused r refl)
