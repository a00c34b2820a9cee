-- `lines::put_answer` meets its contract: the word is put, and two numbers behind it. Assumes nothing.
use Rattle.lines.specs.Lines.{line_of, refused_word, refused_line, outcome_line}
use Rattle.lines.proofs.Puts.{put_then}
use Rattle.lines.proofs.put_answer.Goals as goal

pub returns-in-Err : goal.returns-in-Err
unfolding outcome_line refused_line refused_word line_of
returns-in-Err c =
    rw c.in-Err.is (put_then c.put_field-at.ensures c.put_numbers-in-Err.ensures)
