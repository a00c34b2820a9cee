-- `windows::find_greatest` meets its contract. The loop keeps: no position of the set stands in column k or right of it. Assumes nothing.
use Rattle.windows.specs.Private.{NoneFrom}
use Rattle.windows.proofs.find_greatest.Given as goal

abbrev pub invariant-loop-k : goal.invariant-loop-k
invariant-loop-k l = NoneFrom l.set l.k
