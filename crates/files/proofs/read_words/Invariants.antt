-- `files::read_words` meets its contract. Assumes nothing.
use Rattle.std.proofs.Common.{◌≡◌, ◌++◌, drop, take}
use Rattle.files.specs.Private.{numbers}
use Rattle.files.proofs.read_words.Given as goal

abbrev pub invariant-loop-i : goal.invariant-loop-i
invariant-loop-i l = (l.out ≡ numbers (take l.i l.words) ++ drop l.i l.initial.out)
