-- `values::reached` meets its contract. Assumes nothing.
use Rattle.std.proofs.Common.{arith, sym, ◌∙◌}
use Rattle.bits.proofs.Sets.{has_alone}
use Rattle.values.proofs.reached.Goals as goal

pub returns-then-is_within : goal.returns-then-is_within
returns-then-is_within c =
    let a = c.args in
    rw (sym (c.is_within.ensures ∙ has_alone 16 a.term a.i (omega arith)) ∙ c.if-is_within.true)

pub returns-else-is_within : goal.returns-else-is_within
returns-else-is_within c =
    let a = c.args in
    rw (sym (c.is_within.ensures ∙ has_alone 16 a.term a.i (omega arith)) ∙ c.if-is_within.false)
