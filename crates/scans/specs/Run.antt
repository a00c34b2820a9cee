-- Running a form on a scan, its residue, and the root question: the order of refusals, the answer, and what is left in the slice lent.
use Rattle.std.specs.Prelude.{◌≡◌, Bool, not, cond, List, ℕ, eqb, length, get_or, ℤ}
use Rattle.limits.specs.Limits.{width, most_samples}
use Rattle.theory.specs.Lists.{first, any_below, tab}
use Rattle.theory.specs.Signals.{held, cleaned, filtered_at, residue_at}
use Rattle.std.specs.Prelude.{Result, Ok, Option, Some, None}
use Rattle.refusals.specs.declared.Refusal.{Refusal}
use Rattle.refusals.specs.Refusals.{Checked, and_then}
use Rattle.refusals.specs.Shared.{scan_checked, lent_checked}
use Rattle.refusals.specs.Promise.{Gives}
use Rattle.forms.specs.Check.{form_checked}

-- ---- which calls are refused

-- root question: 7, 8, 9
unfoldable pub root_checked : List ℕ → List ℕ → Checked
root_checked ts s = and_then (form_checked width ts) (scan_checked most_samples (length s))

-- running a form, or its residue, with so many elements lent: 7, 8, 9, 10
unfoldable pub run_checked : List ℕ → List ℕ → ℕ → Checked
run_checked ts s lent = and_then (form_checked width ts) (and_then (scan_checked most_samples (length s)) (lent_checked (length s) lent))

-- ---- what the calls answer and write

-- a run: the filter at each sample
abbrev pub Clean : List ℕ → List ℕ → List ℕ → List ℕ → Result ℕ Refusal → Type 0
Clean ts s old new r = Gives (run_checked ts s) (length s) (cleaned held ts s) old new r

-- a residue: raw minus cleaned at each sample
abbrev pub Residue : List ℕ → List ℕ → List ℤ → List ℤ → Result ℕ Refusal → Type 0
Residue ts s old new r = Gives (run_checked ts s) (length s) (tab (length s) (residue_at held ts s)) old new r

-- sample x is not what f makes of it
unfoldable pub differs : (ℕ → ℕ) → List ℕ → ℕ → Bool
differs f s x = not (eqb (get_or s x 0) (f x))

-- the first sample that differs, where one does
unfoldable pub root_found : (ℕ → ℕ) → List ℕ → Option ℕ
root_found f s = cond (any_below (differs f s) (length s)) (Some (first (differs f s) (length s))) None

-- the root question: the first sample that is not its filtered value, if there is one
abbrev pub Root : List ℕ → List ℕ → Result (Option ℕ) Refusal → Type 0
Root ts s r = r ≡ and_then (root_checked ts s) (Ok (root_found (filtered_at held ts s) s))
