use Rattle.std.proofs.Common.{arith}
use Rattle.theory.specs.Tables.{table_of}
use Rattle.theory.proofs.Fills.{fill_none, fill_more, fill_all}
use Rattle.compiler.proofs.read_bytes.Goals as goal

pub loop-j-init : goal.loop-j-init
loop-j-init c = fill_none _ _

pub loop-j-preserved : goal.loop-j-preserved
loop-j-preserved c = fill_more c.loop-j.invariant (omega arith) c.read_byte.ensures

pub returns : goal.returns
unfolding table_of
returns c = fill_all c.loop-j.invariant (omega arith)
