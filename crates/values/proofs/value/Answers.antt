use Rattle.std.proofs.Common.{arith, sym, ◌∙◌}
use Rattle.values.proofs.Counts.{value_start, value_turn, value_end}
use Rattle.values.proofs.value.Goals as goal

pub loop-term-init : goal.loop-term-init
loop-term-init c = value_start c.args.near _

pub loop-term-preserved : goal.loop-term-preserved
loop-term-preserved c =
    let turn = value_turn c.args.near c.args.terms.now c.loop-term.term-index c.loop-term.m (omega arith) in
    rw (c.larger-m.ensures, c.smallest.ensures) (turn ∙ c.loop-term.invariant)

pub returns : goal.returns
returns c = sym (value_end c.args.near c.args.terms.now c.loop-term.term-index c.loop-term.m (omega arith)) ∙ c.loop-term.invariant
