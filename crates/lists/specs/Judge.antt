-- The judge of a list that comes piece by piece: what it knows, and what a byte changes of it. That its verdict is `list_checked` of the whole
-- text, however the text is cut, is the law `cut_anywhere` (lists/proofs/Cuts).
use Rattle.std.specs.Prelude.{ℕ, ◌+◌, Bool, cond, List, Option, None, Some, Ok, Err, leb, ltb}
use Rattle.std.specs.Bool.{then_some}
use Rattle.std.specs.List.{fold}
use Rattle.std.specs.Option.{option_or}
use Rattle.limits.specs.Limits.{most_names, longest_name}
use Rattle.refusals.specs.declared.Refusal.TheVariants.{BadName, NameCount}
use Rattle.refusals.specs.Refusals.{Checked, refuse_if, and_then}
use Rattle.lists.specs.declared.Judge.{Judge}
use Rattle.lists.specs.Names.{is_line_end, is_bad_length}

-- before the first byte: no line has ended, none has begun, and none is bad
abbrev pub fresh : Judge
fresh = record { lines = 0; bytes = 0; bad = None }

-- the line at hand ends: it is the first bad one where it is bad and none was before it
unfoldable pub ended : Judge → Judge
ended j = record { lines = j.lines + 1; bytes = 0; bad = option_or j.bad (then_some (is_bad_length j.bytes) (j.lines + 1)) }

-- the line at hand has one byte more; of a line that is too long no more are counted
unfoldable pub grown : Judge → Judge
grown j = record { lines = j.lines; bytes = cond (leb j.bytes longest_name) (j.bytes + 1) j.bytes; bad = j.bad }

-- the text ends: so does the line at hand, if it has begun
unfoldable pub closed : Judge → Judge
closed j = cond (ltb 0 j.bytes) (ended j) j

-- line 251 has begun: the text has over 250 lines, even if it ends here
unfoldable pub is_over : Judge → Bool
is_over j = ltb most_names (closed j).lines

-- after one byte; once line 251 has begun nothing changes
unfoldable pub stepped : Judge → ℕ → Judge
stepped j b = cond (is_over j) j (cond (is_line_end b) (ended j) (grown j))

-- after a piece of the text
abbrev pub judged : Judge → List ℕ → Judge
judged j piece = fold stepped j piece

-- 19 at the first bad line, if there is one
abbrev pub bad_name : Option ℕ → Checked
bad_name None = Ok tt
bad_name (Some line) = Err (BadName line)

-- the verdict on a text that ends here: 20 where line 251 has begun; else 19 at the first bad line
unfoldable pub verdict_of : Judge → Checked
verdict_of j = and_then (refuse_if (is_over j) (NameCount most_names)) (bad_name (closed j).bad)
