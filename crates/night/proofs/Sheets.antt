-- The sheet, file by file: after each line the totals are the running totals of what became of the files so far, and the lines that are
-- left make up the rest of the list. Assumes nothing.
use mathlib.Core.Path.{◌≡◌, refl, sym, ap, subst, ◌∙◌}
use mathlib.Core.List.Memᴰ
use mathlib.Core.List.{List, [], ◌∷◌, ◌++◌, foldl-append, Memᴰ}
use mathlib.Core.Logic.{◌⊎◌, inl, inr}
use Prim.Native.Nat.{ℕ, ◌+◌, ◌≤◌, ◌<◌}
use native.Mathlib.Numerals.{add-one}
use native.Mathlib.Omega.{arith}
use lib.ListN.{length, take, drop, length-append, drop_of_length-le}
use lib.Seq.{take_at}
use borrow.Author.Tests.{eq-eqb}
use Rattle.limits.specs.Limits.{most_names}
use Rattle.refusals.specs.declared.Refusal.{Refusal}
use Rattle.refusals.specs.Shared.{lent_checked}
use Rattle.refusals.proofs.Checks.{done_fine}
use Rattle.lists.specs.Names.{lines_of, line_end, list_checked}
use Rattle.lists.proofs.Ends.{lines_walked}
use Rattle.lists.proofs.Sizes.{fine_lines}
use Rattle.lines.specs.Lines.{Writes}
use Rattle.lines.proofs.Lengths.{line_fits}
use Rattle.totals.specs.declared.Outcome.{Outcome}
use Rattle.totals.specs.declared.Totals.{Totals}
use Rattle.totals.specs.Totals.{nothing, added}
use Rattle.totals.specs.declared.Outcome.TheVariants.{Unopened}
use Rattle.totals.specs.Nights.{OfFile, OfFiles, not_opened, running}
use Rattle.std.specs.Prelude.{Option, Some, None, IfSome, IfOk, Result, Ok, Err}
use Rattle.std.specs.Option.{unwrap_or}
use Rattle.totals.proofs.Nights.{night_exact}
use Rattle.night.specs.Private.{Within, OfList}

-- a line lies in the room that its call was lent, where that is as large as the call wants
pub line_within : (room : ℕ) (text old new : List ℕ) (r : Result ℕ Refusal) → length old ≡ room → Writes room text old new r → length new ≡ length old
    → Within (length new) r
unfolding lent_checked
line_within room text old new (Ok n) e p same = line_fits text old new n p same
line_within room text old new (Err r) e p same =
    let never = rw (e, eq-eqb room room refl) at p.answer in
    absurd (cc)

-- what holds of the start of the room, as far as its call answers, holds of the line
pub line_printed : (P : List ℕ → Type 0) (room : ℕ) (text old new : List ℕ) (r : Result ℕ Refusal) → length old ≡ room → Writes room text old new r
    → length new ≡ length old → IfOk r (λ n. P (take n new)) → P text
line_printed P room text old new (Ok n) e p same q =
    let fine = done_fine (lent_checked room (length old)) (length text) n p.answer in
    subst P (ap (take n) (rw fine.0 at p.out) ∙ take_at text _ n (sym fine.1)) q
line_printed P room text old new (Err r) e p same q = absurd (line_within room text old new (Err r) e p same)

-- a file that cannot be opened and read is not opened
pub opened_or : (r : Option Outcome) → IfSome r OfFile → OfFile (unwrap_or r Unopened)
opened_or (Some o) p = p
opened_or None p = not_opened

-- so far on the sheet: the line at hand begins at a place of the list
abbrev pub SoFar : List ℕ → ℕ → Totals → Type 0
SoFar list place totals =
    (outcomes : List Outcome) × OfFiles outcomes × (totals ≡ running outcomes)
    × (length outcomes + length (lines_of (drop place list)) ≡ length (lines_of list))

pub sheet_starts : (list : List ℕ) → SoFar list 0 nothing
unfolding running
sheet_starts list = ([], (λ o m. elim m [ ]), refl, omega arith)

pub sheet_goes_on : (list : List ℕ) (place : ℕ) (totals : Totals) (o : Outcome) → place < length list → OfFile o → SoFar list place totals
    → SoFar list (line_end list place + 1) (added totals o)
unfolding running
sheet_goes_on list place totals o h is (outcomes, each, e, count) =
    let walked = ap length (lines_walked list place h) in
    let more = length-append outcomes (o ∷ []) in
    let next = ap (λ (k : ℕ). length (lines_of (drop k list))) (add-one (line_end list place)) in (
      outcomes ++ o ∷ [],
      (λ p m. go p (Memᴰ.append_cases outcomes m)),
      ap (λ (t : Totals). added t o) e ∙ sym (foldl-append added nothing outcomes (o ∷ [])),
      omega (arith, walked, more, next, count),
    )
  where
    go : (p : Outcome) → Memᴰ p outcomes ⊎ Memᴰ p (o ∷ []) → OfFile p
    go p (inl m) = each p m
    go p (inr m) = rw (Memᴰ.eq_of_singleton m) is

-- at the list's end every line has its outcome, and the totals are exact
pub sheet_ends : (list : List ℕ) (place : ℕ) (totals : Totals) → list_checked list ≡ Ok tt → length list ≤ place → SoFar list place totals
    → OfList list totals
unfolding lines_of
sheet_ends list place totals fine h (outcomes, each, e, count) =
    let none = ap (λ (rest : List ℕ). length (lines_of rest)) (drop_of_length-le list h) in
    let all : length outcomes ≡ length (lines_of list) = omega (arith, none, count) in
    let few : length outcomes ≤ most_names = omega (arith, all, (fine_lines list fine).0) in
    (outcomes, each, all, e ∙ night_exact outcomes each few)
