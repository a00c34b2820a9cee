-- What a run that is not refused knows of its input, and leaves in the slice that it fills whole.
-- Assumes nothing.
use Rattle.std.specs.Prelude.{Ok}
use mathlib.Core.Path.{◌≡◌, refl, sym, ◌∙◌}
use mathlib.Core.List.{List}
use Prim.Native.Nat.{ℕ, ◌≤◌, ◌<◌}
use native.Mathlib.Omega.{arith}
use lib.ListN.{length}
use Rattle.limits.specs.Limits.{most_samples}
use Rattle.theory.specs.Signals.{Ends}
use Rattle.theory.proofs.Signals.{before, after, endless-between}
use Rattle.theory.proofs.Lists.{length-tab}
use Rattle.refusals.specs.Refusals.{written}
use Rattle.refusals.specs.Shared.{scan_checked, lent_checked}
use Rattle.refusals.proofs.Checks.{and_then_fine, written_whole}
use Rattle.refusals.proofs.Shared.{scan_fine, lent_fine}
use Rattle.recipes.specs.Judge.{recipe_checked}
use Rattle.recipes.specs.Meaning.{value_at}
use Rattle.runner.specs.Run.{ran, recipe_run_checked}
use Rattle.runner.specs.Private.{made_between, values_between}

-- the recipe is accepted, the scan has samples, and as many elements are lent
pub run_fine : (r s : List ℕ) (lent : ℕ) → recipe_run_checked r s lent ≡ Ok tt → (recipe_checked r ≡ Ok tt) × (lent ≡ length s) × (0 < length s)
unfolding recipe_run_checked
run_fine r s lent e =
    let judged = and_then_fine (recipe_checked r) _ e in
    let rest = and_then_fine (scan_checked most_samples (length s)) _ judged.1 in
    (judged.0, lent_fine (length s) lent rest.1, (scan_fine most_samples (length s) rest.0).0)

pub fine_run : (r s : List ℕ) (lent : ℕ) → recipe_checked r ≡ Ok tt → scan_checked most_samples (length s) ≡ Ok tt
    → lent_checked (length s) lent ≡ Ok tt → recipe_run_checked r s lent ≡ Ok tt
unfolding recipe_run_checked
fine_run r s lent judged long fits = rw (judged, long, fits)

-- the values between what stands beyond the ends are those under the ends rule, and they are the whole slice
pub run_written : (ends : Ends) (r s new old : List ℕ) (left right : ℕ) → recipe_run_checked r s (length old) ≡ Ok tt
    → left ≡ before 0 ends s → right ≡ after 0 ends s → new ≡ values_between left right r s
    → new ≡ written (recipe_run_checked r s (length old)) (ran ends r s) old
unfolding ran values_between made_between value_at
run_written ends r s new old left right fine el er e =
    let all : values_between left right r s ≡ ran ends r s = rw (el, er, ← endless-between 0 ends s) refl in
    let same = (run_fine r s (length old) fine).1 in
    let whole : length old ≤ length (ran ends r s) = omega (arith, length-tab (length s) (value_at ends r s)) in
    e ∙ all ∙ sym (written_whole (ran ends r s) old fine whole)
