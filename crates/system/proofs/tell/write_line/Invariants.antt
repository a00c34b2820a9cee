use Rattle.std.proofs.Common.{◌≡◌, ◌≤◌, ℕ, length, take, drop}
use Rattle.std.specs.Io.KnownBytes.{Appends}
use Rattle.system.proofs.tell.write_line.Given as goal

-- so many bytes of the line have been taken, and the rest is what is left to write
abbrev pub invariant-loop-rest : goal.invariant-loop-rest
invariant-loop-rest g l =
    (n : ℕ) × (n ≤ length l.line) × (l.rest ≡ drop n l.line) × Appends (g.W.Write.contents l.fn.out) (g.W.Write.contents l.out) (take n l.line)

abbrev pub decreases-loop-rest : goal.decreases-loop-rest
decreases-loop-rest g l = length l.rest
