use Rattle.std.proofs.Common.{◌≤◌, length}
use Rattle.wire.proofs.Wire.run.Given as goal

abbrev pub invariant-loop : goal.invariant-loop
invariant-loop g l = l.filled ≤ length l.run
