-- The table of a preset is positive, so table to form gives the preset's form: 13 and 12 cannot occur.
-- Assumes nothing.
use mathlib.Core.List.{List}
use Prim.Native.Nat.{ℕ, ◌<◌}
use native.Mathlib.Omega.{arith}
use lib.ListN.{get_or}
use borrow.Author.Tests.{lt-leb}
use Rattle.limits.specs.Limits.{width, table_bytes, presets}
use Rattle.theory.specs.Forms.{Positive}
use Rattle.theory.specs.Tables.{table_of}
use Rattle.std.specs.Prelude.{Result}
use Rattle.refusals.specs.declared.Refusal.{Refusal}
use Rattle.tables.specs.Tables.{TableToForm}
use Rattle.tables.proofs.Tabulated.{tabulated_gives}
use Rattle.presets.specs.Presets.{preset_tables, near_in, on_window, preset_form, preset_checked, Preset}
use Rattle.presets.proofs.Nearest.{near_lt, near_within}
use Rattle.presets.proofs.Rule.{entry_positive}

-- the function of each preset is positive
pub preset_positive : (i : ℕ) → i < presets → Positive width (on_window (get_or preset_tables i 0))
unfolding on_window
preset_positive i h u v l q e = entry_positive i h (near_in u) (near_in v) (near_lt v) (near_within u v q) e

-- what table to form makes of the table of its function is the preset
pub formed_preset : (i : ℕ) (old new : List ℕ) (r : Result ℕ Refusal) → i < presets
    → TableToForm (table_of table_bytes (on_window (get_or preset_tables i 0))) old new r → Preset i old new r
unfolding preset_form preset_checked
formed_preset i old new r h formed =
    let gives = tabulated_gives (on_window (get_or preset_tables i 0)) (preset_positive i h) old new r formed in
    let low = lt-leb presets i (omega arith) in
    record { answer = rw low gives.answer; out = rw low gives.out }
