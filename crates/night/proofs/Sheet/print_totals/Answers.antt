use Rattle.std.proofs.Common.{arith}
use Rattle.night.proofs.Sheets.{line_within}
use Rattle.night.proofs.Sheet.print_totals.Goals as goal

pub print_line-requires : goal.print_line-requires
print_line-requires g c = line_within 512 _ _ _ _ (omega arith) c.totals_line-answer.ensures c.totals_line-answer.auto.out
