-- `runner::run` fills where nothing is refused, and leaves the slice as it was otherwise. Assumes nothing.
use Rattle.std.proofs.Common.{sym, length}
use Rattle.theory.specs.Signals.{held}
use Rattle.refusals.proofs.Shared.{lent_fine}
use Rattle.runner.proofs.Fine.{fine_run, run_written}
use Rattle.runner.proofs.run.Goals as goal

pub fill-requires : goal.fill-requires
fill-requires c = lent_fine _ _ (sym c.in_ok-check_lent.ensures)

pub returns : goal.returns
returns c =
    let a = c.args in
    let judged = rw c.in_ok-recipe.ensures.ok at c.in_ok-recipe.recipe.fine in
    let fine = fine_run a.recipe.now a.scan.now (length a.out.now) judged (sym c.in_ok-check_scan.ensures) (sym c.in_ok-check_lent.ensures) in
    let ends = c.hold_ends-beyond.ensures in
    record {
      answer = rw fine;
      out = run_written held a.recipe.now a.scan.now _ a.out.now _ _ fine ends.0 ends.1 (rw c.in_ok-recipe.ensures.ok at c.fill.ensures);
    }
