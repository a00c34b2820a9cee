-- `values::smallest_of_two` meets its contract: two neighbouring positions, joined. Assumes nothing.
use Rattle.std.proofs.Common.{◌+◌, arith, sym, ◌∙◌}
use Rattle.theory.proofs.Demands.{Samples}
use Rattle.values.proofs.Counts.{smallest-at, smallest_join}
use Rattle.values.proofs.smallest_of_two.Goals as goal

pub returns : goal.returns
returns c =
    let a = c.args in
    let small : Samples a.near.now = λ k. omega (arith, c.fits-near k) in
    smallest_join a.near.now a.term small a.i 1 1
    (c.reached.ensures ∙ sym (smallest-at a.near.now a.term small a.i))
    (c.reached-2.ensures ∙ sym (smallest-at a.near.now a.term small (a.i + 1)))
    c.smaller.ensures
