-- `scans::root` meets its contract. Assumes nothing.
use Rattle.std.proofs.Common.{arith, sym}
use Rattle.theory.proofs.Demands.{Samples}
use Rattle.scans.proofs.Fine.{root_gives}
use Rattle.scans.proofs.root.Goals as goal

pub returns : goal.returns
returns c =
    let a = c.args in
    let run = c.held.ensures in
    let small : Samples a.scan.now = λ k. omega (arith, c.type_inv.scan k) in
    let found = rw (run.0, run.1) at c.find_difference.ensures in
    root_gives a.terms.now a.scan.now (sym c.in_ok-check.ensures) (sym c.in_ok-check_scan.ensures) (run.2, run.3) small found
