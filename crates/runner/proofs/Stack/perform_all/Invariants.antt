-- `runner::Stack::perform_all` holds the rows of the plans that the steps before have left. Assumes nothing.
use Rattle.std.proofs.Common.{◌≡◌, ◌+◌, length}
use Rattle.rows.specs.Private.{margin}
use Rattle.runner.proofs.Performs.{Going}
use Rattle.runner.proofs.Stack.perform_all.Given as goal

abbrev pub invariant-loop-i : goal.invariant-loop-i
invariant-loop-i l =
    Going l.beyond.left l.beyond.right l.recipe.bytes.now l.scan l.self.values l.steps l.self.held l.i × (l.self.row ≡ length l.scan + margin)
