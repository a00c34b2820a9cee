-- k samples have come in. Assumes nothing.
use Rattle.std.proofs.Common.{suc, ◌≡◌}
use Rattle.limits.specs.Limits.{reach}
use Rattle.scans.proofs.Windows.{carried_at}
use Rattle.scans.proofs.Run.enter.Given as goal

abbrev pub invariant-loop-k : goal.invariant-loop-k
invariant-loop-k l = l.near ≡ carried_at l.self.ends.left l.self.ends.right l.self.scan.now l.k (suc reach)
