use Rattle.std.proofs.Common.{◌-◌, length}
use Rattle.night.proofs.Sheets.{SoFar}
use Rattle.night.proofs.Sheet.print_files.Given as goal

abbrev pub invariant-loop-place : goal.invariant-loop-place
invariant-loop-place g l = SoFar l.text l.place l.totals

abbrev pub decreases-loop-place : goal.decreases-loop-place
decreases-loop-place g l = length l.text - l.place
