-- `tables::Steady::count_terms` meets its contract. Assumes nothing.
use Rattle.std.proofs.Common.{rules, refl, ap, ◌∙◌, length}
use Rattle.std.proofs.lemmas.Iterator.{YieldsList-from_range}
use Rattle.std.proofs.lemmas.Iterator.Consumers.{count_from_yields_List, YieldsList-from_filter, YieldsList-at}
use borrow.Author.Tests.{tests}
use Rattle.limits.specs.Limits.{patterns}
use Rattle.theory.specs.Forms.{minimal, form_of}
use Rattle.theory.specs.Tables.{table_at}
use Rattle.tables.specs.Tables.{form_in}
use Rattle.tables.proofs.Chains.{keep_range}
use Rattle.tables.proofs.Steady.count_terms.Goals as goal

pub returns : goal.returns
unfolding form_in form_of
returns c =
    let f = table_at c.args.self.now.table.now in
    count_from_yields_List c.filter.result c.count.result c.count.ensures.ran
    (YieldsList-from_filter _ (minimal f) (YieldsList-at c.filter.ensures.source (YieldsList-from_range 0 patterns patterns refl refl)) c.filter.ensures.closure (λ x r q k. search (rules, tests)))
    ∙ ap length (keep_range (minimal f) 0 patterns)
