-- `tables::Steady::is_term` meets its contract: one position less is enough to look at. Assumes nothing.
use Rattle.std.proofs.Common.{rules, refl, sym, ◌∙◌, ◌≡◌, true, false}
use Rattle.std.proofs.lemmas.Iterator.{YieldsList-from_range}
use Rattle.std.proofs.lemmas.Iterator.Search.{any_from_yields_List}
use borrow.Author.Tests.{tests}
use Rattle.limits.specs.Limits.{width}
use Rattle.theory.specs.Forms.{minimal}
use Rattle.theory.specs.Tables.{table_at}
use Rattle.theory.proofs.Minimal.{keeps_without, minimal_by_one, one_less}
use Rattle.theory.proofs.Tables.{fine_positive}
use Rattle.forms.proofs.Chains.{any_range}
use Rattle.tables.proofs.Steady.is_term.Goals as goal

pub returns-then-value_on : goal.returns-then-value_on
unfolding minimal_by_one keeps_without
returns-then-value_on c =
    let f = table_at c.args.self.now.table.now in
    let p = keeps_without f c.args.v in
    let kept =
    any_from_yields_List p _ _ _ c.any.ensures.ran (YieldsList-from_range 0 width width refl refl) (λ x b q k. search (rules, tests))
    ∙ any_range p 0 width in
    let one : f c.args.v ≡ true = sym c.value_on.ensures ∙ c.if-value_on.true in
    rw (sym kept, one) at (one_less width f (fine_positive width f c.args.self.now.steady) c.args.v c.requires)

pub returns-else-value_on : goal.returns-else-value_on
unfolding minimal
returns-else-value_on c =
    let none : table_at c.args.self.now.table.now c.args.v ≡ false = sym c.value_on.ensures ∙ c.if-value_on.false in
    c.if-value_on.false ∙ sym (rw none refl)
