-- Truth tables: what the calls from a table to its form and back refuse, answer and leave in the slice lent.
use Rattle.std.specs.Prelude.{ℕ, not, List, eqb, length}
use Rattle.limits.specs.Limits.{width, patterns, table_bytes}
use Rattle.theory.specs.Lists.{first, any_below}
use Rattle.theory.specs.Forms.{holds, form_of}
use Rattle.theory.specs.Tables.{table_at, table_of, slips}
use Rattle.std.specs.Prelude.{Result}
use Rattle.refusals.specs.declared.Refusal.{Refusal}
use Rattle.refusals.specs.declared.Refusal.TheVariants.{NotPositive, TableLength}
use Rattle.refusals.specs.Refusals.{Checked, refuse_if, and_then}
use Rattle.refusals.specs.Shared.{room_checked}
use Rattle.refusals.specs.Promise.{Gives}
use Rattle.forms.specs.Check.{form_checked}

-- 13: a truth table slice of n bytes, not 64
unfoldable pub bytes_checked : ℕ → Checked
bytes_checked n = refuse_if (not (eqb n table_bytes)) (TableLength n)

-- 12 at the least pattern with value 1 that one more position turns to 0
unfoldable pub positive_checked : List ℕ → Checked
positive_checked tb = refuse_if (any_below (slips width (table_at tb)) patterns) (NotPositive (first (slips width (table_at tb)) patterns))

-- the form of a truth table
unfoldable pub form_in : List ℕ → List ℕ
form_in tb = form_of width (table_at tb)

-- table to form: 13, 12, 6
unfoldable pub table_to_form_checked : List ℕ → ℕ → Checked
table_to_form_checked tb lent =
    and_then (bytes_checked (length tb)) (and_then (positive_checked tb) (room_checked (length (form_in tb)) lent))

-- form to table: 7, 8, 13
unfoldable pub form_to_table_checked : List ℕ → ℕ → Checked
form_to_table_checked ts lent = and_then (form_checked width ts) (bytes_checked lent)

-- table to form: the number of terms, and the form from the start of the slice lent
abbrev pub TableToForm : List ℕ → List ℕ → List ℕ → Result ℕ Refusal → Type 0
TableToForm tb old new r = Gives (table_to_form_checked tb) (length (form_in tb)) (form_in tb) old new r

-- form to table: the number of terms, and the truth table of the form in the slice lent
abbrev pub FormToTable : List ℕ → List ℕ → List ℕ → Result ℕ Refusal → Type 0
FormToTable ts old new r = Gives (form_to_table_checked ts) (length ts) (table_of table_bytes (holds ts)) old new r
