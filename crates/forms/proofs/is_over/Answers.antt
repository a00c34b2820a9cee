-- `forms::is_over` meets its contract: a shift by the width leaves something exactly of a term that is over. Assumes nothing.
use Rattle.std.proofs.Common.{arith, sym, ◌∙◌}
use borrow.Author.Tests.{le-ltb}
use Rattle.forms.proofs.Shifts.{over_shift, over_none}
use Rattle.forms.proofs.is_over.Goals as goal

pub returns-then-width-lt-TERM_BITS : goal.returns-then-width-lt-TERM_BITS
returns-then-width-lt-TERM_BITS c = over_shift c.args.width c.args.term

pub returns-else-width-lt-TERM_BITS : goal.returns-else-width-lt-TERM_BITS
returns-else-width-lt-TERM_BITS c = le-ltb c.args.width 16 (omega arith) ∙ sym (over_none 16 c.args.width c.args.term (omega arith) (omega arith))
