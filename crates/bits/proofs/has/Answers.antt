-- `bits::has` meets its contract: a shift reads the bit, and there is none beyond the word. Assumes nothing.
use Rattle.std.proofs.Common.{arith, sym, ◌∙◌, le-ltb}
use Rattle.theory.proofs.Positions.{has_shift}
use Rattle.bits.proofs.Sets.{has_beyond}
use Rattle.bits.proofs.has.Goals as goal

pub returns-then-i-lt-WORD_BITS : goal.returns-then-i-lt-WORD_BITS
returns-then-i-lt-WORD_BITS c = sym (has_shift _ _)

pub returns-else-i-lt-WORD_BITS : goal.returns-else-i-lt-WORD_BITS
returns-else-i-lt-WORD_BITS c =
    le-ltb c.args.i 64 c.if-i-lt-WORD_BITS.false ∙ sym (has_beyond 64 c.args.set c.args.i (omega arith) (omega arith))
