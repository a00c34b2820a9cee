-- `bits::byte` meets its contract. The loop keeps: the bits that the iterator has given are gathered. Assumes nothing.
use Rattle.bits.proofs.Bytes.{Gathered}
use Rattle.bits.proofs.byte.Given as goal

abbrev pub invariant-loop-bit : goal.invariant-loop-bit
invariant-loop-bit l = Gathered l.fn.bits l.bit-iterator.iter.rest.now l.byte
