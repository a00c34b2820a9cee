-- `lines::totals_line` meets its contract: the line is put where the slice has its room. Assumes nothing.
use Rattle.std.proofs.Common.{sym}
use Rattle.limits.specs.Limits.{totals_bytes}
use Rattle.lines.specs.Lines.{totals_line}
use Rattle.lines.proofs.Puts.{put_writes}
use Rattle.lines.proofs.totals_line.Goals as goal

pub returns : goal.returns
unfolding totals_line
returns c =
    put_writes totals_bytes (sym c.in_ok-check_lent.ensures) (rw c.in_order.ensures at c.put_numbers.ensures)
