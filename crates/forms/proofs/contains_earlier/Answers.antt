-- `forms::contains_earlier` meets its contract. Assumes nothing.
use Rattle.std.proofs.Common.{rules, arith, ◌∙◌, take, get_or}
use Rattle.std.proofs.lemmas.Iterator.{YieldsList-from_slice}
use Rattle.std.proofs.lemmas.Iterator.Search.{any_from_yields_List}
use borrow.Author.Tests.{tests}
use Rattle.theory.specs.Sets.{within}
use Rattle.theory.specs.Forms.{contains_earlier}
use Rattle.forms.proofs.Chains.{any_start}
use Rattle.forms.proofs.contains_earlier.Goals as goal

pub returns : goal.returns
unfolding contains_earlier
returns c =
    let ts = c.args.terms.now in
    any_from_yields_List (λ t. within t (get_or ts c.args.i 0)) _ _ _ c.any.ensures.ran (YieldsList-from_slice (take c.args.i ts) (search rules)) (λ x b q k. search (rules, tests))
    ∙ any_start 0 _ ts c.args.i (omega arith)
