-- `totals::add` meets its contract. The loop's invariant: so many numbers are sums modulo 2^64, and the others are as they were.
-- Assumes nothing.
use Rattle.std.proofs.Common.{◌+◌, ◌%◌, ◌^◌, get_or}
use Rattle.theory.proofs.Fills.{Filled}
use Rattle.totals.proofs.add.Given as goal

abbrev pub invariant-loop-i : goal.invariant-loop-i
invariant-loop-i l =
    Filled (λ k. (get_or l.initial.sum-items k 0 + get_or l.adds k 0) % 2 ^ 64) l.initial.sum-items l.sum-items l.i
