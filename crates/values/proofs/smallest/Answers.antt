-- `values::smallest` meets its contract: two fours and the last position, joined. Assumes nothing.
use Rattle.std.proofs.Common.{arith, sym, ◌∙◌}
use Rattle.theory.proofs.Demands.{Samples}
use Rattle.values.proofs.Counts.{smallest-at, smallest_join}
use Rattle.values.proofs.smallest.Goals as goal

pub returns : goal.returns
returns c =
    let a = c.args in
    let small : Samples a.near.now = λ k. omega (arith, c.fits-near k) in
    smallest_join a.near.now a.term small 0 8 1
    (smallest_join a.near.now a.term small 0 4 4
    c.smallest_of_four.ensures
    c.smallest_of_four-2.ensures
    c.smaller.ensures)
    (c.reached.ensures ∙ sym (smallest-at a.near.now a.term small 8))
    c.smaller-2.ensures
