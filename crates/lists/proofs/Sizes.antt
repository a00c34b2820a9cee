-- An accepted list has at most 250 names of 255 bytes and their line ends, so that a program needs no more memory for any list.
-- Assumes nothing.
use Prim.Native.Nat.{ℕ, zero, suc, ◌+◌, ◌*◌, ◌≤◌, ◌<◌, suc-le-suc, zero-le}
use native.Mathlib.Omega.{arith}
use mathlib.Core.Path.{◌≡◌}
use mathlib.Core.Bool.{true, false}
use mathlib.Core.List.{List, [], ◌∷◌}
use mathlib.Core.Logic.{◌⊎◌, inl, inr}
use lib.Dec.{eqb, ltb}
use lib.ListN.{length}
use borrow.Author.Tests.{ltb-false}
use Rattle.limits.specs.Limits.{most_names, longest_name, longest_list}
use Rattle.theory.specs.Lists.{first, any_below}
use Rattle.theory.proofs.Tests.{which, or_no_right}
use Rattle.theory.proofs.Lists.{any_below_no}
use Rattle.std.specs.Prelude.{Ok}
use Rattle.refusals.specs.declared.Refusal.TheVariants.{BadName, NameCount}
use Rattle.refusals.specs.Refusals.{refuse_if}
use Rattle.refusals.proofs.Checks.{refuse_no, and_then_fine}
use Rattle.lists.specs.Names.{lengthened, is_line_end, lines_of, is_bad_length, is_bad_line, list_checked}

-- the bytes of some lines, each with a line end
unfoldable size : List (List ℕ) → ℕ
size [] = 0
size (line ∷ lines) = length line + 1 + size lines

size-lengthened : (b : ℕ) (lines : List (List ℕ)) → suc (size lines) ≤ size (lengthened b lines)
unfolding size lengthened
size-lengthened b [] = omega arith
size-lengthened b (line ∷ lines) = omega arith

-- a text is its lines, with at most one line end each
text_size : (text : List ℕ) → length text ≤ size (lines_of text)
unfolding size lines_of
text_size [] = zero-le
text_size (b ∷ text) = go (which (is_line_end b)) (text_size text)
  where
    go : (is_line_end b ≡ true) ⊎ (is_line_end b ≡ false) → length text ≤ size (lines_of text) → suc (length text) ≤ size (lines_of (b ∷ text))
    go (inl e) ih = rw e (omega arith)
    go (inr e) ih = rw e (omega (arith, size-lengthened b (lines_of text)))

good_length : (n : ℕ) → is_bad_length n ≡ false → n ≤ longest_name
unfolding is_bad_length
good_length n e = ltb-false longest_name n (or_no_right (eqb n 0) _ e)

size_good : (lines : List (List ℕ)) → ((k : ℕ) → k < length lines → is_bad_line lines k ≡ false)
    → size lines ≤ (longest_name + 1) * length lines
unfolding size is_bad_line
size_good [] f = zero-le
size_good (line ∷ lines) f =
    omega (arith, good_length (length line) (f zero (suc-le-suc zero-le)), size_good lines (λ k h. f (suc k) (suc-le-suc h)))

-- where nothing is refused there are at most 250 lines, and none is bad
pub fine_lines : (text : List ℕ) → list_checked text ≡ Ok tt
    → (length (lines_of text) ≤ most_names) × ((k : ℕ) → k < length (lines_of text) → is_bad_line (lines_of text) k ≡ false)
unfolding list_checked
fine_lines text e =
    let n = length (lines_of text) in
    let bad = is_bad_line (lines_of text) in
    let both = and_then_fine (refuse_if (ltb most_names n) (NameCount most_names)) _ e in (
      ltb-false most_names n (refuse_no (ltb most_names n) (NameCount most_names) both.0),
      any_below_no bad n (refuse_no (any_below bad n) (BadName (first bad n + 1)) both.1),
    )

pub accepted_short : (text : List ℕ) → list_checked text ≡ Ok tt → length text ≤ longest_list
accepted_short text e =
    let fine = fine_lines text e in
    omega (arith, text_size text, size_good (lines_of text) fine.1)
