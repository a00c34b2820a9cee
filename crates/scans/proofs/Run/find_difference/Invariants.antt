-- No sample passed differs. Assumes nothing.
use Rattle.std.proofs.Common.{ℕ, ◌<◌, false, ◌≡◌}
use Rattle.scans.specs.Run.{differs}
use Rattle.scans.specs.Private.{value_around}
use Rattle.scans.proofs.Windows.{Carries}
use Rattle.scans.proofs.Run.find_difference.Given as goal

abbrev pub invariant-loop-x : goal.invariant-loop-x
invariant-loop-x l =
    let run = l.self in
    ((k : ℕ) → k < l.x → differs (value_around run.ends.left run.ends.right run.terms.now run.scan.now) run.scan.now k ≡ false)
    × Carries run.ends.left run.ends.right run.scan.now l.x l.near
