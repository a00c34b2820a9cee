-- `values::smallest_of_four` meets its contract: two neighbouring pairs, joined. Assumes nothing.
use Rattle.std.proofs.Common.{arith}
use Rattle.theory.proofs.Demands.{Samples}
use Rattle.values.proofs.Counts.{smallest_join}
use Rattle.values.proofs.smallest_of_four.Goals as goal

pub returns : goal.returns
returns c =
    let a = c.args in
    let small : Samples a.near.now = λ k. omega (arith, c.fits-near k) in
    smallest_join a.near.now a.term small a.i 2 2
    c.smallest_of_two.ensures c.smallest_of_two-2.ensures c.smaller.ensures
