-- The lines of a text as flags, bad or not, found byte by byte as the judge finds them; and the first bad line, line by line.
-- Assumes nothing.
use Prim.Native.Nat.{ℕ, suc, ◌+◌, ◌<◌, suc-le-suc, zero-le}
use native.Mathlib.Nat.{zero-add, add-zero}
use native.Mathlib.Omega.{arith}
use mathlib.Core.Path.{◌≡◌, refl, ◌∙◌}
use mathlib.Core.Bool.{Bool, true, false, cond}
use mathlib.Core.List.{List, [], ◌∷◌, map}
use mathlib.Core.Logic.{◌⊎◌, inl, inr}
use lib.Dec.{eqb, leb, ltb, leb-suc-suc}
use lib.ListN.{length}
use Rattle.std.specs.Prelude.{Option, Some, None}
use Rattle.std.specs.Bool.{then_some}
use Rattle.std.specs.Option.{option_or}
use borrow.Author.Tests.{leb-false, lt-ltb}
use Rattle.limits.specs.Limits.{longest_name}
use Rattle.theory.specs.Lists.{first, any_below}
use Rattle.theory.proofs.Tests.{which, or_right}
use Rattle.lists.specs.Names.{lengthened, is_line_end, lines_of, is_bad_length, is_bad_line}

abbrev pub is_bad : List ℕ → Bool
is_bad line = is_bad_length (length line)

-- one byte more, counted to one more than a name may have
abbrev pub counted : ℕ → ℕ
counted b = cond (leb b longest_name) (b + 1) b

-- the lines, bad or not, where b bytes of the line at hand went before the text
unfoldable pub flags : ℕ → List ℕ → List Bool
flags b [] = cond (ltb 0 b) (is_bad_length b ∷ []) []
flags b (x ∷ text) = cond (is_line_end x) (is_bad_length b ∷ flags 0 text) (flags (counted b) text)

-- the same of lines: b bytes more in the first
unfoldable flagged : ℕ → List (List ℕ) → List Bool
flagged b [] = cond (ltb 0 b) (is_bad_length b ∷ []) []
flagged b (line ∷ lines) = is_bad_length (b + length line) ∷ map is_bad lines

-- ---- the count of bytes serves, though it stops

long_bad : (n : ℕ) → longest_name < n → is_bad_length n ≡ true
unfolding is_bad_length
long_bad n h = or_right (eqb n 0) (lt-ltb longest_name n h)

counted_bad : (b m : ℕ) → is_bad_length (b + suc m) ≡ is_bad_length (counted b + m)
counted_bad b m = go (which (leb b longest_name))
  where
    go : (leb b longest_name ≡ true) ⊎ (leb b longest_name ≡ false) → is_bad_length (b + suc m) ≡ is_bad_length (counted b + m)
    go (inl e) = let z : b + suc m ≡ b + 1 + m = omega arith in rw (e, z)
    go (inr e) =
        let h : longest_name < b = leb-false b longest_name e in
        rw (e, long_bad (b + suc m) (omega arith), long_bad (b + m) (omega arith))

counted_some : (b : ℕ) → 0 < counted b
counted_some b = go (which (leb b longest_name))
  where
    go : (leb b longest_name ≡ true) ⊎ (leb b longest_name ≡ false) → 0 < counted b
    go (inl e) = rw e (omega arith)
    go (inr e) = let h : longest_name < b = leb-false b longest_name e in rw e (omega arith)

-- ---- byte by byte and line by line

flagged_none : (lines : List (List ℕ)) → flagged 0 lines ≡ map is_bad lines
unfolding flagged
flagged_none [] = refl
flagged_none (line ∷ lines) = rw (zero-add (length line))

flagged_more : (b x : ℕ) (lines : List (List ℕ)) → flagged b (lengthened x lines) ≡ flagged (counted b) lines
unfolding flagged lengthened
flagged_more b x [] = rw (lt-ltb 0 (counted b) (counted_some b), counted_bad b 0, add-zero (counted b))
flagged_more b x (line ∷ lines) = rw (counted_bad b (length line))

flags_lines : (b : ℕ) (text : List ℕ) → flags b text ≡ flagged b (lines_of text)
unfolding flags flagged lines_of
flags_lines b [] = refl
flags_lines b (x ∷ text) = go (which (is_line_end x)) (flags_lines 0 text) (flags_lines (counted b) text)
  where
    go : (is_line_end x ≡ true) ⊎ (is_line_end x ≡ false) → flags 0 text ≡ flagged 0 (lines_of text)
        → flags (counted b) text ≡ flagged (counted b) (lines_of text) → flags b (x ∷ text) ≡ flagged b (lines_of (x ∷ text))
    go (inl e) none more = rw (e, none, flagged_none (lines_of text), add-zero b)
    go (inr e) none more = rw (e, more, flagged_more b x (lines_of text))

pub flags_text : (text : List ℕ) → flags 0 text ≡ map is_bad (lines_of text)
flags_text text = flags_lines 0 text ∙ flagged_none (lines_of text)

-- a line that has begun is a line
pub flags_begun : (b : ℕ) (text : List ℕ) → 0 < b → 0 < length (flags b text)
unfolding flags
flags_begun b [] h = rw (lt-ltb 0 b h) (omega arith)
flags_begun b (x ∷ text) h = go (which (is_line_end x)) (flags_begun (counted b) text (counted_some b))
  where
    go : (is_line_end x ≡ true) ⊎ (is_line_end x ≡ false) → 0 < length (flags (counted b) text) → 0 < length (flags b (x ∷ text))
    go (inl e) ih = rw e (suc-le-suc zero-le)
    go (inr e) ih = rw e ih

-- ---- the first bad line

-- the first bad line, from 1, after n lines of which the first bad one is `bad`, if there is one
unfoldable pub marks : ℕ → Option ℕ → List Bool → Option ℕ
marks n bad [] = bad
marks n bad (flag ∷ rest) = marks (n + 1) (option_or bad (then_some flag (n + 1))) rest

marks_kept : (n line : ℕ) (rest : List Bool) → marks n (Some line) rest ≡ Some line
unfolding marks
marks_kept n line [] = refl
marks_kept n line (flag ∷ rest) = marks_kept (n + 1) line rest

pub marks_first : (n : ℕ) (lines : List (List ℕ))
    → marks n None (map is_bad lines)
    ≡ then_some (any_below (is_bad_line lines) (length lines)) (n + first (is_bad_line lines) (length lines) + 1)
unfolding marks any_below first is_bad_line
marks_first n [] = refl
marks_first n (line ∷ lines) = go (which (is_bad line)) (marks_first (n + 1) lines)
  where
    rest : ℕ
    rest = first (is_bad_line lines) (length lines)

    go : (is_bad line ≡ true) ⊎ (is_bad line ≡ false)
        → marks (n + 1) None (map is_bad lines) ≡ then_some (any_below (is_bad_line lines) (length lines)) (n + 1 + rest + 1)
        → marks n None (map is_bad (line ∷ lines))
        ≡ then_some (any_below (is_bad_line (line ∷ lines)) (suc (length lines))) (n + first (is_bad_line (line ∷ lines)) (suc (length lines)) + 1)
    go (inl e) ih = rw (e, marks_kept (n + 1) (n + 1) (map is_bad lines), lt-ltb 0 (suc (length lines)) (omega arith), add-zero n)
    go (inr e) ih =
        let z : n + suc rest + 1 ≡ n + 1 + rest + 1 = omega arith in
        rw (e, leb-suc-suc (suc rest) (length lines), z) ih
