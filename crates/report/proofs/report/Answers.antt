use Rattle.std.proofs.Common.{◌≡◌, ◌≤◌, List, ℕ, arith, sym, length, Result, Ok}
use Rattle.std.proofs.lemmas.List.{length-take-le}
use Rattle.lines.specs.Lines.{Line}
use Rattle.lines.proofs.Lengths.{line_fits}
use Rattle.refusals.specs.declared.Refusal.{Refusal}
use Rattle.report.proofs.Files.{some_file, line_given}
use Rattle.report.proofs.report.Goals as goal

-- the line lies in its room
fits : (f old new : List ℕ) (r : Result ℕ Refusal) (n : ℕ) → r ≡ Ok n → Line f old new r → length new ≡ length old → n ≤ length new
fits f old new r n is p same = line_fits _ old new n (rw is at p) same

pub unwrap-n-requires : goal.unwrap-n-requires
unwrap-n-requires g c =
    let file = some_file c.file_in-file.result in
    line_given file.0 _ _ _ (omega arith) (c.write_line.ensures file.0 file.1)

pub slice_bounds-line-end : goal.slice_bounds-line-end
slice_bounds-line-end g c =
    let file = some_file c.file_in-file.result in
    fits _ _ _ _ _ c.unwrap-n.ensures (c.write_line.ensures file.0 file.1) c.write_line.auto.line

pub slice_bounds-write_line-end-2 : goal.slice_bounds-write_line-end-2
slice_bounds-write_line-end-2 g c =
    let file = some_file c.file_in-file.result in
    sym (length-take-le c.unwrap-n.result c.write_line.new.line (fits _ _ _ _ _ c.unwrap-n.ensures (c.write_line.ensures file.0 file.1) c.write_line.auto.line))
