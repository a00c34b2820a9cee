-- `compiler::show_patterns` meets its contract: the samples of the patterns before i are written. Assumes nothing.
use Rattle.std.proofs.Common.{◌*◌}
use Rattle.limits.specs.Limits.{width}
use Rattle.theory.proofs.Fills.{Filled}
use Rattle.compiler.specs.Private.{sample_at}
use Rattle.compiler.proofs.show_patterns.Given as goal

abbrev pub invariant-loop-i : goal.invariant-loop-i
invariant-loop-i l = Filled (sample_at l.first) l.initial.scan l.scan (l.i * width)
