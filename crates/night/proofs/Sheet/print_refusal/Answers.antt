use Rattle.std.proofs.Common.{arith, List, ℕ, OnOk}
use Rattle.std.specs.Io.KnownBytes.{Appends}
use Rattle.lines.specs.Lines.{refused_line}
use Rattle.night.proofs.Sheets.{line_within, line_printed}
use Rattle.night.proofs.Sheet.print_refusal.Goals as goal

pub print_line-requires : goal.print_line-requires
print_line-requires g c = line_within 128 _ _ _ _ (omega arith) c.refused_line-answer.ensures c.refused_line-answer.auto.out

pub returns : goal.returns
returns g c =
    let printed =
    line_printed
    (λ (xs : List ℕ). OnOk c.print_line.result (Appends (g.W.Write.contents c.args.self.now.out) (g.W.Write.contents c.print_line.new.self.out) xs))
    128 (refused_line c.from.result) _ _ _ (omega arith) c.refused_line-answer.ensures c.refused_line-answer.auto.out c.print_line.ensures in
    rw c.from.ensures at printed
