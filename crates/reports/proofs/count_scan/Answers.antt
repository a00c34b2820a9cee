-- `reports::count_scan` meets its contract. Assumes nothing.
use Rattle.std.proofs.Common.{arith, sym, length-take-le}
use Rattle.reports.proofs.Counted.{run_short}
use Rattle.reports.proofs.count_scan.Goals as goal

pub slice_bounds-cleaned-end : goal.slice_bounds-cleaned-end
slice_bounds-cleaned-end c = omega (arith, run_short _ _ _ c.requires)

pub slice_bounds-clean_and_count-end : goal.slice_bounds-clean_and_count-end
slice_bounds-clean_and_count-end c =
    sym (length-take-le _ _ (omega (arith, run_short _ _ _ c.requires)))

pub clean_and_count-requires-clause-room : goal.clean_and_count-requires-clause-room
clean_and_count-requires-clause-room c =
    length-take-le _ _ (omega (arith, run_short _ _ _ c.requires))
