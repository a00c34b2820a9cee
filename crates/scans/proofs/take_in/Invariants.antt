-- `scans::take_in` meets its contract: a store a turn. Assumes nothing.
use Rattle.std.proofs.Common.{◌+◌, get_or}
use Rattle.theory.specs.Signals.{window}
use Rattle.theory.proofs.Fills.{Filled}
use Rattle.windows.specs.Columns.{position_in}
use Rattle.scans.proofs.take_in.Given as goal

abbrev pub invariant-loop-i : goal.invariant-loop-i
invariant-loop-i l = Filled (λ k. get_or l.near (position_in (window.column k + 1)) l.arriving) l.near l.value-items l.i
