-- `tables::fill_table` meets its contract: the first j bytes are written. Assumes nothing.
use Rattle.theory.specs.Forms.{holds}
use Rattle.theory.proofs.Fills.{Filled}
use Rattle.tables.proofs.Bytes.{byte_of}
use Rattle.tables.proofs.fill_table.Given as goal

abbrev pub invariant-loop-j : goal.invariant-loop-j
invariant-loop-j l = Filled (byte_of (holds l.terms)) l.initial.table l.table l.j
