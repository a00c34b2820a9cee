use Rattle.std.proofs.Common.{suc, arith, ap, ◌∙◌}
use Rattle.limits.specs.Limits.{reach}
use Rattle.theory.specs.Signals.{window}
use Rattle.scans.specs.Private.{moved_on}
use Rattle.scans.proofs.Windows.{none_in, one_in}
use Rattle.scans.proofs.Run.enter.Goals as goal

pub loop-k-init : goal.loop-k-init
loop-k-init c = let a = c.args.self.now in none_in a.ends.left a.ends.right a.scan.now

pub loop-k-preserved : goal.loop-k-preserved
loop-k-preserved c =
    let a = c.args.self.now in
    let k = c.loop-k.k in
    c.take_in-next.ensures
    ∙ ap (moved_on window c.loop-k.near) c.load.ensures
    ∙ one_in a.ends.left a.ends.right a.scan.now k (suc reach) k (omega arith) c.loop-k.invariant
