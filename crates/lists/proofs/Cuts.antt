-- However a list is cut into pieces, the judge's verdict is that of the whole text; and once line 251 has begun it stays 20.
-- Assumes nothing.
use Prim.Native.Nat.{ℕ, suc, ◌+◌, ◌≤◌}
use native.Mathlib.Nat.{zero-add, add-zero}
use native.Mathlib.Omega.{arith}
use mathlib.Core.Path.{◌≡◌, refl, sym, ap, ◌∙◌}
use mathlib.Core.Bool.{Bool, true, false}
use mathlib.Core.List.{List, [], ◌∷◌, ◌++◌, map, flatten, foldl}
use mathlib.Core.Logic.{◌⊎◌, inl, inr}
use lib.Dec.{ltb}
use lib.ListN.{length, length-map}
use borrow.Author.Tests.{ltb-true, lt-ltb}
use Rattle.limits.specs.Limits.{most_names}
use Rattle.theory.specs.Lists.{first, any_below}
use Rattle.theory.proofs.Tests.{which, not_both}
use Rattle.std.specs.Prelude.{Ok, Err}
use Rattle.refusals.specs.declared.Refusal.TheVariants.{BadName, NameCount}
use Rattle.refusals.specs.Refusals.{refuse_if}
use Rattle.refusals.proofs.Checks.{refuse_no, and_then_fine}
use Rattle.lists.specs.declared.Judge.{Judge}
use Rattle.lists.specs.Names.{is_line_end, lines_of, is_bad_length, is_bad_line, list_checked, CheckList}
use Rattle.lists.specs.Judge.{fresh, ended, grown, closed, is_over, stepped, judged, verdict_of, bad_name}
use Rattle.std.specs.Bool.{then_some}
use Rattle.std.proofs.lemmas.List.Sums.{fold-append}
use Rattle.lists.proofs.Judges.{over_same, not_over}
use Rattle.lists.proofs.Flags.{is_bad, counted, flags, flags_text, flags_begun, marks, marks_first}

-- what the judge J, who was j before some lines, tells of them by their flags
record Tells (j J : Judge) (fs : List Bool) : Type 0 where
  over : is_over J ≡ ltb most_names (j.lines + length fs)
  count : is_over J ≡ false → (closed J).lines ≡ j.lines + length fs
  mark : is_over J ≡ false → (closed J).bad ≡ marks j.lines j.bad fs

-- a line that has begun is one of the lines
begun_counts : (j : Judge) (text : List ℕ) → (closed j).lines ≤ j.lines + length (flags j.bytes text)
unfolding closed ended
begun_counts j text = go (which (ltb 0 j.bytes))
  where
    go : (ltb 0 j.bytes ≡ true) ⊎ (ltb 0 j.bytes ≡ false) → (closed j).lines ≤ j.lines + length (flags j.bytes text)
    go (inl e) = rw e (omega (arith, flags_begun j.bytes text (ltb-true 0 j.bytes e)))
    go (inr e) = rw e (omega arith)

tells_none : (j : Judge) → Tells j j (flags j.bytes [])
unfolding flags closed ended is_over marks
tells_none j = go (which (ltb 0 j.bytes))
  where
    go : (ltb 0 j.bytes ≡ true) ⊎ (ltb 0 j.bytes ≡ false) → Tells j j (flags j.bytes [])
    go (inl e) = rw e (record { over = rw e; count = λ h. rw e; mark = λ h. rw e })
    go (inr e) = rw e (record { over = rw (e, add-zero j.lines); count = λ h. rw (e, add-zero j.lines); mark = λ h. rw e })

tells_over : (j : Judge) (text : List ℕ) → is_over j ≡ true → Tells j j (flags j.bytes text)
unfolding is_over
tells_over j text o =
    let n = j.lines + length (flags j.bytes text) in
    record {
      over = o ∙ sym (lt-ltb most_names n (omega (arith, ltb-true most_names (closed j).lines o, begun_counts j text)));
      count = λ h. absurd (not_both o h);
      mark = λ h. absurd (not_both o h);
    }

tells_ended : (j J : Judge) (fs : List Bool) → Tells (ended j) J fs → Tells j J (is_bad_length j.bytes ∷ fs)
unfolding ended marks
tells_ended j J fs t =
    let z : j.lines + 1 + length fs ≡ j.lines + suc (length fs) = omega arith in
    record { over = t.over ∙ ap (ltb most_names) z; count = λ h. t.count h ∙ z; mark = t.mark }

tells_grown : (j J : Judge) (fs : List Bool) → Tells (grown j) J fs → Tells j J fs
unfolding grown
tells_grown j J fs t = record { over = t.over; count = t.count; mark = t.mark }

tells : (j : Judge) (text : List ℕ) → Tells j (judged j text) (flags j.bytes text)
unfolding flags stepped ended grown
tells j [] = tells_none j
tells j (x ∷ text) = go (which (is_over j)) (which (is_line_end x)) (tells (ended j) text) (tells (grown j) text)
  where
    go : (is_over j ≡ true) ⊎ (is_over j ≡ false) → (is_line_end x ≡ true) ⊎ (is_line_end x ≡ false)
        → Tells (ended j) (judged (ended j) text) (flags (ended j).bytes text)
        → Tells (grown j) (judged (grown j) text) (flags (grown j).bytes text)
        → Tells j (judged (stepped j x) text) (flags j.bytes (x ∷ text))
    go (inl o) e end grow = rw (o, over_same j text o) (tells_over j (x ∷ text) o)
    go (inr o) (inl e) end grow = rw (o, e) (tells_ended j (judged (ended j) text) (flags 0 text) end)
    go (inr o) (inr e) end grow = rw (o, e) (tells_grown j (judged (grown j) text) (flags (counted j.bytes) text) grow)

-- ---- the whole text

-- where nothing is refused, line 251 has not begun
pub fine_not_over : (j : Judge) → verdict_of j ≡ Ok tt → is_over j ≡ false
unfolding verdict_of
fine_not_over j e = refuse_no (is_over j) (NameCount most_names) (and_then_fine (refuse_if (is_over j) (NameCount most_names)) _ e).0

told : (text : List ℕ) → Tells fresh (judged fresh text) (map is_bad (lines_of text))
told text = rw (flags_text text) at (tells fresh text)

-- the judge has counted the names, where 20 is not the verdict
pub names_counted : (text : List ℕ) → is_over (judged fresh text) ≡ false → (closed (judged fresh text)).lines ≡ length (lines_of text)
names_counted text h = (told text).count h ∙ zero-add _ ∙ length-map (lines_of text) is_bad

many_lines : (text : List ℕ) → is_over (judged fresh text) ≡ ltb most_names (length (lines_of text))
many_lines text = (told text).over ∙ ap (ltb most_names) (zero-add _ ∙ length-map (lines_of text) is_bad)

by_place : (b : Bool) (k : ℕ) → bad_name (then_some b k) ≡ refuse_if b (BadName k)
by_place true k = refl
by_place false k = refl

pub verdict_whole : (text : List ℕ) → verdict_of (judged fresh text) ≡ list_checked text
unfolding verdict_of list_checked
verdict_whole text = go (which (is_over (judged fresh text)))
  where
    lines : List (List ℕ)
    lines = lines_of text

    go : (is_over (judged fresh text) ≡ true) ⊎ (is_over (judged fresh text) ≡ false) → verdict_of (judged fresh text) ≡ list_checked text
    go (inl o) = rw (← many_lines text, o)
    go (inr o) =
        rw (← many_lines text, o, (told text).mark o ∙ marks_first 0 lines, zero-add (first (is_bad_line lines) (length lines)))
        (by_place (any_below (is_bad_line lines) (length lines)) (first (is_bad_line lines) (length lines) + 1))

-- so line 251 has not begun, and the names are counted
pub fine_few : (j : Judge) → verdict_of j ≡ Ok tt → j.lines ≤ most_names
fine_few j e = not_over j (fine_not_over j e)

-- a judge that has gone through the whole text and refuses nothing has the number of its names
pub names_told : (text : List ℕ) {first last end : Judge} → first ≡ fresh → last ≡ judged first text → Ok tt ≡ verdict_of last → end ≡ closed last
    → CheckList text (Ok end.lines)
names_told text p q r s =
    let all = q ∙ ap (λ (j : Judge). judged j text) p in
    let fine : list_checked text ≡ Ok tt = sym (verdict_whole text) ∙ ap verdict_of (sym all) ∙ sym r in
    let few = fine_not_over (judged fresh text) (verdict_whole text ∙ fine) in
    rw fine (ap (λ (n : ℕ). Ok n) (ap (λ (j : Judge). j.lines) (s ∙ ap closed all) ∙ names_counted text few))

-- ---- piece by piece

judged_pieces : (j : Judge) (pieces : List (List ℕ)) → foldl judged j pieces ≡ judged j (flatten pieces)
unfolding flatten
judged_pieces j [] = refl
judged_pieces j (piece ∷ pieces) = judged_pieces (judged j piece) pieces ∙ sym (fold-append stepped j piece (flatten pieces))

-- the verdict of the judge that went through the pieces of a text, one after the other, is the whole text's
pub cut_anywhere : (pieces : List (List ℕ)) → verdict_of (foldl judged fresh pieces) ≡ list_checked (flatten pieces)
cut_anywhere pieces = ap verdict_of (judged_pieces fresh pieces) ∙ verdict_whole (flatten pieces)

-- the judge is over exactly where what it went through has more than 250 lines
pub over_begins : (pieces : List (List ℕ)) → is_over (foldl judged fresh pieces) ≡ ltb most_names (length (lines_of (flatten pieces)))
over_begins pieces = ap is_over (judged_pieces fresh pieces) ∙ many_lines (flatten pieces)

-- then the verdict is 20 at 250, and the whole text's is, whatever follows: so no more need be read
pub over_stays : (pieces : List (List ℕ)) (more : List ℕ) → is_over (foldl judged fresh pieces) ≡ true
    → (verdict_of (foldl judged fresh pieces) ≡ Err (NameCount most_names))
    × (list_checked (flatten pieces ++ more) ≡ Err (NameCount most_names))
unfolding verdict_of
over_stays pieces more e =
    let o = sym (ap is_over (judged_pieces fresh pieces)) ∙ e in (
      rw e,
      sym (verdict_whole (flatten pieces ++ more))
          ∙ ap verdict_of (fold-append stepped fresh (flatten pieces) more ∙ over_same (judged fresh (flatten pieces)) more o)
          ∙ rw o,
    )
