-- A list of file names: "one to a line (names of 1 to 255 bytes, at most 250 lines, the last line end optional)". A text is its bytes.
use Rattle.std.specs.Prelude.{ℕ, ◌+◌, ◌≡◌, Bool, cond, ◌||◌, List, [], ◌∷◌, eqb, ltb, length, get_or, drop}
use Rattle.std.specs.List.{position_or_len}
use Rattle.limits.specs.Limits.{most_names, longest_name}
use Rattle.theory.specs.Lists.{first, any_below}
use Rattle.std.specs.Prelude.{Result, Ok}
use Rattle.refusals.specs.declared.Refusal.{Refusal}
use Rattle.refusals.specs.declared.Refusal.TheVariants.{BadName, NameCount}
use Rattle.refusals.specs.Refusals.{Checked, refuse_if, and_then}

-- a byte that ends a line: a line feed
abbrev pub is_line_end : ℕ → Bool
is_line_end b = eqb b 10

-- lines with one byte more at the front of the first
unfoldable pub lengthened : ℕ → List (List ℕ) → List (List ℕ)
lengthened b [] = (b ∷ []) ∷ []
lengthened b (line ∷ lines) = (b ∷ line) ∷ lines

-- the lines of a text: a line feed ends a line, and bytes behind the last one are a further line
unfoldable pub lines_of : List ℕ → List (List ℕ)
lines_of [] = []
lines_of (b ∷ text) = cond (is_line_end b) ([] ∷ lines_of text) (lengthened b (lines_of text))

-- a line of so many bytes is empty or too long
unfoldable pub is_bad_length : ℕ → Bool
is_bad_length n = eqb n 0 || ltb longest_name n

-- line k, from 0, is empty or too long
unfoldable pub is_bad_line : List (List ℕ) → ℕ → Bool
is_bad_line lines k = is_bad_length (length (get_or lines k []))

-- 20 for over 250 lines, at 250; then 19 for a line that is empty or too long, at the first such, from 1
unfoldable pub list_checked : List ℕ → Checked
list_checked text =
    let bad = is_bad_line (lines_of text) in
    let n = length (lines_of text) in
    and_then (refuse_if (ltb most_names n) (NameCount most_names)) (refuse_if (any_below bad n) (BadName (first bad n + 1)))

-- checking a list: the number of its names, or why it is refused
abbrev pub CheckList : List ℕ → Result ℕ Refusal → Type 0
CheckList text r = r ≡ and_then (list_checked text) (Ok (length (lines_of text)))

-- where the line ends that begins at a place of the text: at its line feed, or else at the text's end; a place beyond the text is
-- its own end
unfoldable pub line_end : List ℕ → ℕ → ℕ
line_end text at = at + position_or_len is_line_end (drop at text)
