-- `files::put_words` meets its contract. Assumes nothing.
use Rattle.std.proofs.Common.{◌≡◌, ◌++◌, ◌*◌, drop, take}
use Rattle.limits.specs.Limits.{word_bytes}
use Rattle.files.specs.Bytes.{in_words}
use Rattle.files.proofs.put_words.Given as goal

abbrev pub invariant-loop-i : goal.invariant-loop-i
invariant-loop-i l = (l.out ≡ in_words (take l.i l.numbers) ++ drop (word_bytes * l.i) l.initial.out)
