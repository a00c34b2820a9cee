-- What is left at each sample, one store a turn. Assumes nothing.
use Rattle.theory.proofs.Fills.{Filled}
use Rattle.scans.specs.Private.{left_around}
use Rattle.scans.proofs.Windows.{Carries}
use Rattle.scans.proofs.Run.fill.Given as goal

abbrev pub invariant-loop-x : goal.invariant-loop-x
invariant-loop-x g l =
    let run = l.self in
    Filled (left_around run.ends.left run.ends.right g.T.Left.left run.terms.now run.scan.now) l.initial.out l.out l.x
    × Carries run.ends.left run.ends.right run.scan.now l.x l.near
