-- `runner::Job::fill` fills the output piece by piece. Assumes nothing.
use Rattle.std.proofs.Common.{◌*◌, min, pos, length}
use Rattle.theory.proofs.Fills.{Filled}
use Rattle.rows.specs.Private.{piece}
use Rattle.runner.specs.Private.{made_between}
use Rattle.runner.proofs.Job.fill.Given as goal

abbrev pub invariant-loop-k : goal.invariant-loop-k
invariant-loop-k l =
    Filled (λ x. made_between l.self.beyond.left l.self.beyond.right l.self.recipe.bytes.now l.self.scan.now (pos x)) l.initial.out l.out
    (min (length l.self.scan.now) (l.k * piece))
