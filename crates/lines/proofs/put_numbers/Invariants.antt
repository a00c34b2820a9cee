-- `lines::put_numbers` meets its contract. The loop's invariant: so many numbers are put, a space behind each. Assumes nothing.
use Rattle.std.proofs.Common.{◌*◌, ◌≤◌, take}
use Rattle.lines.specs.Private.{Put}
use Rattle.lines.proofs.Numbers.{spaced}
use Rattle.lines.proofs.put_numbers.Given as goal

abbrev pub invariant-loop-number : goal.invariant-loop-number
invariant-loop-number l = Put (spaced (take l.number-index l.numbers)) l.initial.out l.out l.at × (l.at ≤ 21 * l.number-index)
