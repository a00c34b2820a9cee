-- `presets::preset` meets its contract: 14 first, then what table to form makes of its table. Assumes nothing.
use Rattle.std.proofs.Common.{rules, ap, ◌∙◌, ◌≡◌, ◌<◌, ℕ, get_or}
use Rattle.limits.specs.Limits.{table_bytes, presets}
use Rattle.theory.specs.Tables.{table_of}
use Rattle.presets.specs.Presets.{preset_tables, on_window}
use Rattle.presets.proofs.Given.{formed_preset}
use Rattle.presets.proofs.preset.Goals as goal

pub returns : goal.returns
unfolding preset_tables
returns c =
    let low : c.args.number < presets = search rules in
    let small : c.in-Some.field-0.now ≡ get_or preset_tables c.args.number 0 = search rules in
    let table = c.tabulate-table.ensures ∙ ap (λ (t : ℕ). table_of table_bytes (on_window t)) small in
    formed_preset _ _ _ _ low (rw table at c.table_to_form.ensures)
