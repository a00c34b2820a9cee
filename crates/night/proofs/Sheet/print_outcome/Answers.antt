use Rattle.std.proofs.Common.{arith}
use Rattle.night.proofs.Sheets.{line_within}
use Rattle.night.proofs.Sheet.print_outcome.Goals as goal

pub print_line-requires : goal.print_line-requires
print_line-requires g c = line_within 128 _ _ _ _ (omega arith) c.outcome_line-answer.ensures c.outcome_line-answer.auto.out
