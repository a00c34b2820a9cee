-- `scans::residue` meets its contract. Assumes nothing.
use Rattle.std.proofs.Common.{ℕ, ℤ, pos, ◌-ℤ◌, arith, sym, length}
use Rattle.theory.specs.Signals.{residue_at}
use Rattle.theory.proofs.Demands.{Samples}
use Rattle.scans.proofs.Fine.{run_fine, run_gives}
use Rattle.scans.proofs.residue.Goals as goal

pub fill-requires : goal.fill-requires
fill-requires c =
    let a = c.args in
    let run = c.held.ensures in
    let lent = (run_fine a.terms.now a.scan.now (length a.out.now) (sym c.in_ok-admit_run.ensures)).2 in
    rw run.1 lent

pub returns : goal.returns
unfolding residue_at
returns c =
    let a = c.args in
    let run = c.held.ensures in
    let make : ℕ → ℕ → ℤ = λ raw cleaned. pos raw -ℤ pos cleaned in
    let small : Samples a.scan.now = λ k. omega (arith, c.type_inv.scan k) in
    let filled = rw (run.0, run.1) at c.fill.ensures.0 in
    rw (c.fill.ensures.1, run.1)
    (run_gives a.terms.now a.scan.now a.out.now make (sym c.in_ok-admit_run.ensures) (run.2, run.3) small filled)
