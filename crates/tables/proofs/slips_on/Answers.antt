-- `tables::slips_on` meets its contract. Assumes nothing.
use Rattle.std.proofs.Common.{rules, refl, ◌∙◌, sym, not}
use Rattle.std.proofs.lemmas.Iterator.{YieldsList-from_range}
use Rattle.std.proofs.lemmas.Iterator.Search.{any_from_yields_List}
use borrow.Author.Tests.{tests}
use Rattle.limits.specs.Limits.{width}
use Rattle.theory.specs.Sets.{with_position}
use Rattle.theory.specs.Tables.{table_at, slips}
use Rattle.forms.proofs.Chains.{any_range}
use Rattle.tables.proofs.slips_on.Goals as goal

pub returns-then-value_on : goal.returns-then-value_on
unfolding slips with_position
returns-then-value_on c =
    let tb = c.args.table.now in
    rw (sym c.value_on.ensures ∙ c.if-value_on.true)
    (any_from_yields_List (λ i. not (table_at tb (with_position c.args.v i))) _ _ _ c.any.ensures.ran (YieldsList-from_range 0 width width refl refl) (λ x b q k. search (rules, tests))
    ∙ any_range _ 0 width)
