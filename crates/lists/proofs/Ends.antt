-- Where a line ends; and that a walk from end to end meets the lines of a text in their order.
-- Assumes nothing.
use Prim.Native.Nat.{ℕ, suc, ◌+◌, ◌-◌, ◌≤◌, ◌<◌, suc-le-suc, zero-le}
use native.Mathlib.Omega.{arith}
use mathlib.Core.Path.{◌≡◌}
use mathlib.Core.Bool.{true, false, not}
use mathlib.Core.List.{List, [], ◌∷◌}
use mathlib.Core.Logic.{◌⊎◌, inl, inr}
use lib.ListN.{length, take, drop, length-drop}
use lib.Seq.{drop-drop, take-length}
use Rattle.std.specs.Prelude.{Option}
use lib.Dec.{ltb}
use borrow.Author.Tests.{ltb-false}
use Rattle.std.specs.List.{position, position_or_len, slice_range}
use Rattle.std.specs.Option.{unwrap_or}
use Rattle.std.proofs.lemmas.List.Sums.{prefix_len-le-length, prefix_len-drop_all}
use native.Mathlib.Nat.{add-zero}
use Rattle.theory.proofs.Tests.{which}
use Rattle.lists.specs.Names.{lengthened, is_line_end, lines_of, line_end}

-- how long the first line of a text is
abbrev line_length : List ℕ → ℕ
line_length text = position_or_len is_line_end text

-- its length by the place of the first line feed, if there is one
found_or : (text : List ℕ) → unwrap_or (position is_line_end text) (length text) ≡ line_length text
found_or text = go (which (ltb (line_length text) (length text)))
  where
    go : (ltb (line_length text) (length text) ≡ true) ⊎ (ltb (line_length text) (length text) ≡ false)
        → unwrap_or (position is_line_end text) (length text) ≡ line_length text
    go (inl e) = rw e
    go (inr e) = rw e (omega (arith, prefix_len-le-length (λ b. not (is_line_end b)) text, ltb-false (line_length text) (length text) e))

pub found_most : (text : List ℕ) → unwrap_or (position is_line_end text) (length text) ≤ length text
found_most text = rw (found_or text) (prefix_len-le-length (λ b. not (is_line_end b)) text)

-- of what stands from a place on, by the place of the first line feed there
pub end_at : (text line : List ℕ) (at n : ℕ) {feed : Option ℕ} → line ≡ slice_range text at (length text) → feed ≡ position is_line_end line
    → n ≡ unwrap_or feed (length line) → at + n ≡ line_end text at
unfolding line_end
end_at text line at n part found here =
    let rest : line ≡ drop at text = rw part (rw (← length-drop at text) (take-length (drop at text))) in
    rw (here, found, found_or line, rest)

-- beyond the text
pub end_beyond : (text : List ℕ) (at : ℕ) → length text ≤ at → line_end text at ≡ at
unfolding line_end
end_beyond text at h = rw (prefix_len-drop_all (λ b. not (is_line_end b)) text at h, add-zero at)

-- behind where the line begins, and within the text
pub end_within : (text : List ℕ) (at : ℕ) → at ≤ length text → (at ≤ line_end text at) × (line_end text at ≤ length text)
unfolding line_end
end_within text at h = (omega arith, omega (arith, prefix_len-le-length (λ b. not (is_line_end b)) (drop at text), length-drop at text))

-- ---- the lines of a text, walked from end to end

-- the first line, and behind its end the lines that follow
abbrev Parts : List ℕ → Type 0
Parts text = lines_of text ≡ take (line_length text) text ∷ lines_of (drop (suc (line_length text)) text)

parts_end : (b : ℕ) (text : List ℕ) → is_line_end b ≡ true → Parts (b ∷ text)
unfolding lines_of
parts_end b text e = rw e

parts_last : (b : ℕ) → is_line_end b ≡ false → Parts (b ∷ [])
unfolding lines_of lengthened
parts_last b e = rw e

parts_more : (b : ℕ) (text : List ℕ) → is_line_end b ≡ false → Parts text → Parts (b ∷ text)
unfolding lines_of lengthened
parts_more b text e ih = let next : 1 + line_length text ≡ suc (line_length text) = omega arith in rw (e, next, ih)

parts : (text : List ℕ) → 0 < length text → Parts text
parts [] h = absurd (omega arith)
parts (b ∷ []) h = go (which (is_line_end b))
  where
    go : (is_line_end b ≡ true) ⊎ (is_line_end b ≡ false) → Parts (b ∷ [])
    go (inl e) = parts_end b [] e
    go (inr e) = parts_last b e
parts (b ∷ x ∷ text) h = go (which (is_line_end b)) (parts (x ∷ text) (suc-le-suc zero-le))
  where
    go : (is_line_end b ≡ true) ⊎ (is_line_end b ≡ false) → Parts (x ∷ text) → Parts (b ∷ x ∷ text)
    go (inl e) ih = parts_end b (x ∷ text) e
    go (inr e) ih = parts_more b (x ∷ text) e ih

-- the line that begins at a place, and behind its end the lines that follow: so a walk by `line_end` meets the names in the list's order
pub lines_walked : (text : List ℕ) (at : ℕ) → at < length text
    → lines_of (drop at text) ≡ take (line_end text at - at) (drop at text) ∷ lines_of (drop (suc (line_end text at)) text)
unfolding line_end
lines_walked text at h =
    let n = line_length (drop at text) in
    let some : 0 < length (drop at text) = omega (arith, length-drop at text) in
    let gone : at + n - at ≡ n = omega arith in
    let next : at + suc n ≡ suc (at + n) = omega arith in
    rw (gone, ← next, ← drop-drop (suc n) at text) (parts (drop at text) some)
