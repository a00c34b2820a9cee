-- `compiler::show_pattern` meets its contract: the first k samples are written. Assumes nothing.
use Rattle.theory.proofs.Fills.{Filled}
use Rattle.compiler.specs.Private.{sample_of}
use Rattle.compiler.proofs.show_pattern.Given as goal

abbrev pub invariant-loop-k : goal.invariant-loop-k
invariant-loop-k l = Filled (sample_of l.v) l.initial.scan l.scan l.k
