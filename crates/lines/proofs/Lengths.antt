-- How long a line is: those of any file whose length, and of any totals that, fit in 64 bits have room in 128 and in 512 bytes.
-- Assumes nothing.
use Rattle.std.specs.Prelude.{Err}
use Rattle.std.specs.Prelude.{Ok}
use Rattle.refusals.specs.Refusals.{Checked}
use Prim.Native.Nat.{ℕ, ◌+◌, ◌*◌, ◌^◌, ◌≤◌, ◌<◌}
use native.Mathlib.Nat.{le_trans}
use native.Mathlib.Omega.{arith}
use mathlib.Core.Path.{◌≡◌, ap, ◌∙◌}
use mathlib.Core.List.{List, [], ◌∷◌, ◌++◌}
use lib.Dec.{lit≤}
use lib.ListN.{length, drop, length-append}
use Rattle.limits.specs.Limits.{line_bytes, totals_bytes}
use Rattle.refusals.specs.Numbers.{noticed}
use Rattle.refusals.specs.Promise.{Gives}
use Rattle.refusals.proofs.Checks.{done_fine}
use Rattle.files.specs.Causes.{Bytes}
use Rattle.reports.specs.Counts.{file_counted}
use Rattle.totals.specs.declared.Outcome.{Outcome}
use Rattle.totals.specs.declared.Outcome.TheVariants.{Unopened, Opened}
use Rattle.totals.specs.declared.Totals.{Totals}
use Rattle.totals.proofs.Fields.{Field, at, cleaned, unopened, seven, eight, nine, fifteen, sixteen, seventeen, eighteen}
use Rattle.totals.proofs.Fields.{samples, changed, spikes, up, down}
use Rattle.lines.specs.Lines.{decimal, line_of, refused_word, unopened_word, report_line, outcome_line, in_order, totals_line}
use Rattle.lines.proofs.Decimals.{length-decimal, digits_short}
use Rattle.lines.proofs.Bounds.{numbers_fit}
use Rattle.lines.proofs.Fields.{Each, each_all, each_so, Fits, fields, each_field_lem, words_of, numbers_of, outcome_fields, totals_fields}

number_most : (n : ℕ) → n < 2 ^ 64 → length (decimal n) ≤ 20
number_most n h = omega (arith, length-decimal n, digits_short n h)

-- a field of at most as many bytes as the longest number
abbrev Short : List ℕ → Type 0
Short field = length field ≤ 20

short_words : (o : Outcome) → Each Short (words_of o)
unfolding unopened_word refused_word
short_words Unopened = (lit≤ tt, tt)
short_words (Opened (Ok c)) = tt
short_words (Opened (Err r)) = (lit≤ tt, tt)

-- a line of short fields: each has a byte behind it
fields_most : (fs : List (List ℕ)) → Each Short fs → length (line_of fs) ≤ 21 * length fs + 1
unfolding line_of
fields_most [] h = omega arith
fields_most (field ∷ []) h = omega (arith, length-append field (10 ∷ []), h.0)
fields_most (field ∷ next ∷ fs) h = omega (arith, length-append field (32 ∷ line_of (next ∷ fs)), h.0, fields_most (next ∷ fs) h.1)

line_most : (room : ℕ) (words : List (List ℕ)) (numbers : List ℕ) → Each Short words → Each Fits numbers
    → 21 * length (fields words numbers) + 1 ≤ room → length (line_of (fields words numbers)) ≤ room
line_most room words numbers w n h =
    le_trans (fields_most (fields words numbers) (each_field_lem Short words numbers w (each_so number_most numbers n))) h

few_fields : (o : Outcome) → 21 * length (fields (words_of o) (numbers_of o)) + 1 ≤ line_bytes
few_fields Unopened = lit≤ tt
few_fields (Opened (Ok c)) = lit≤ tt
few_fields (Opened (Err r)) = lit≤ tt

-- the line of any outcome whose numbers are of 64 bits has room in 128
pub outcome_short : (o : Outcome) → Each Fits (numbers_of o) → length (outcome_line o) ≤ line_bytes
outcome_short o h = rw (outcome_fields o) (line_most line_bytes (words_of o) (numbers_of o) (short_words o) h (few_fields o))

-- so has that of a file of bytes whose length is of 64 bits
pub line_short : (f : List ℕ) → Bytes f → Fits (length f) → length (report_line f) ≤ line_bytes
line_short f bytes fits = outcome_short (Opened (noticed (file_counted f))) (numbers_fit f bytes fits)

-- the line of any totals of 64 bits has room in 512
pub totals_short : (t : Totals) → ((field : Field) → Fits (at field t)) → length (totals_line t) ≤ totals_bytes
totals_short t h =
    let files = cleaned ∷ unopened ∷ seven ∷ eight ∷ nine ∷ fifteen ∷ sixteen ∷ seventeen ∷ eighteen ∷ [] in
    let sums = samples ∷ changed ∷ spikes ∷ up ∷ down ∷ [] in
    let each : Each Fits (in_order t) = each_all h (files ++ sums) in
    rw (totals_fields t) (line_most totals_bytes [] (in_order t) tt each (lit≤ tt))

-- a text that a call writes: where the slice keeps its length, as slices do, the answer lies in it
pub line_fits : {check : ℕ → Checked} (text old new : List ℕ) (n : ℕ) → Gives check (length text) text old new (Ok n)
    → length new ≡ length old → n ≤ length new
line_fits {check} text old new n p same =
    let fine = done_fine (check (length old)) (length text) n p.answer in
    let joined = ap length (rw fine.0 at p.out) ∙ length-append text (drop (length text) old) in
    omega (arith, fine.1, joined, same)
