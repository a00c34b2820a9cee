use Rattle.std.proofs.Common.{arith}
use Rattle.night.proofs.Pieces.{none_judged, judged_accepts}
use Rattle.night.proofs.read_list.Goals as goal

pub loop-init : goal.loop-init
loop-init g c = record {
  size = c.requires;
  within = omega arith;
  judged = none_judged c.args.text.now _ c.start.ensures;
}

pub returns-in-Break-clause-accepts : goal.returns-in-Break-clause-accepts
returns-in-Break-clause-accepts g c =
    let (fit, judged) = rw c.in-Break.is at c.in_ok-more.ensures in
    judged_accepts c.read_piece.new.text c.in-Break.whole.bytes c.in-Break.whole.judge judged
