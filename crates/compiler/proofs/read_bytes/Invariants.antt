-- `compiler::read_bytes` meets its contract: the first j bytes are written. Assumes nothing.
use Rattle.theory.proofs.Fills.{Filled}
use Rattle.compiler.specs.Private.{middle_of}
use Rattle.tables.proofs.Bytes.{byte_of}
use Rattle.compiler.proofs.read_bytes.Given as goal

abbrev pub invariant-loop-j : goal.invariant-loop-j
invariant-loop-j l = Filled (byte_of (middle_of l.out)) l.initial.bytes l.bytes l.j
