-- `windows::least_column` meets its contract: it is the column that is found, or their number. Assumes nothing.
use Rattle.std.proofs.Common.{ℕ, sym, ◌∙◌, ◌≡◌, ◌<◌}
use Rattle.std.specs.Prelude.{Option, MatchOption, unwrap_or}
use Rattle.std.specs.declared.option.Option.TheVariants as option
use Rattle.limits.specs.Limits.{width}
use Rattle.windows.proofs.Columns.{least_column, least_found}
use Rattle.windows.proofs.least_column.Goals as goal

or_width : (o : Option ℕ) (n : ℕ) → MatchOption o (n ≡ width) (λ k. (k ≡ n) × (k < width)) → unwrap_or o 9 ≡ n
or_width option.None n none = sym none
or_width (option.Some k) n found = found.0

pub returns : goal.returns
returns c = c.unwrap_or.ensures ∙ or_width c.find_least.result (least_column c.args.set) (least_found c.args.set c.find_least.ensures)
