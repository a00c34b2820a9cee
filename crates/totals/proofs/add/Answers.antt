use Rattle.std.proofs.Common.{arith, ap, ◌∙◌, length}
use Rattle.theory.proofs.Fills.{fill_none, fill_here, fill_more, fill_all}
use Rattle.totals.specs.Totals.{in_order, totals_in}
use Rattle.totals.proofs.Fields.{added_by}
use Rattle.totals.proofs.add.Goals as goal

pub loop-i-init : goal.loop-i-init
loop-i-init c = fill_none _ _

pub loop-i-preserved : goal.loop-i-preserved
loop-i-preserved c =
    fill_more c.loop-i.invariant (omega (arith, ap length c.into-sums.ensures)) (rw (fill_here 0 c.loop-i.invariant))

pub returns : goal.returns
returns c =
    let all = fill_all c.loop-i.invariant (omega (arith, ap length c.into-sums.ensures)) in
    c.into.ensures ∙ ap totals_in all ∙ added_by c.args.totals c.args.outcome c.into-sums.ensures (c.into-adds.ensures ∙ ap in_order c.of_outcome.ensures)
