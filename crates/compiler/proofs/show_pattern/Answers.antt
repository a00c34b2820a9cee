use Rattle.std.proofs.Common.{arith}
use Rattle.theory.proofs.Fills.{fill_none, fill_more}
use Rattle.compiler.proofs.show_pattern.Goals as goal

pub loop-k-init : goal.loop-k-init
loop-k-init c = fill_none _ _

pub loop-k-preserved : goal.loop-k-preserved
loop-k-preserved c = fill_more c.loop-k.invariant (omega arith) c.show.ensures
