-- Only private contracts cite this: what the night program knows of the list that it has read, of a line's room, and of its totals.
use Rattle.std.specs.Prelude.{ℕ, ◌≤◌, ◌<◌, ◌≡◌, cond, ◌⊎◌, ltb, length, take}
use mathlib.Core.List.{List, foldl, flatten}
use Rattle.std.specs.declared.ops.ControlFlow.{ControlFlow}
use Rattle.std.specs.declared.ops.ControlFlow.TheVariants.{Continue, Break}
use Rattle.limits.specs.Limits.{longest_list}
use Rattle.std.specs.Prelude.{Result, Ok, Err}
use Rattle.refusals.specs.declared.Refusal.{Refusal}
use Rattle.lists.specs.declared.Judge.{Judge}
use Rattle.lists.specs.Judge.{fresh, judged, verdict_of}
use Rattle.lists.specs.Names.{lines_of, list_checked}
use Rattle.totals.specs.declared.Outcome.{Outcome}
use Rattle.totals.specs.declared.Totals.{Totals}
use Rattle.totals.specs.Totals.{totals_of}
use Rattle.totals.specs.Nights.{OfFiles}
use Rattle.night.specs.declared.Reading.{Reading}

-- where the next piece goes: behind the bytes that there are, and in a full slice at its start
unfoldable pub next_place : ℕ → ℕ → ℕ
next_place bytes room = cond (ltb bytes room) bytes 0

-- the judge has gone through pieces of a text: either they are the first bytes of the slice, or they are longer than any list that is
-- accepted
abbrev pub Judged : List ℕ → ℕ → Judge → Type 0
Judged slice bytes judge =
    (pieces : List (List ℕ)) × (judge ≡ foldl judged fresh pieces)
    × ((flatten pieces ≡ take bytes slice) ⊎ (longest_list < length (flatten pieces)))

-- reading the list has come to a piece more, or to its end
abbrev pub Reached : List ℕ → ControlFlow Reading Reading → Type 0
Reached slice (Continue reading) = (reading.bytes ≤ length slice) × Judged slice reading.bytes reading.judge
Reached slice (Break reading) = (reading.bytes ≤ length slice) × Judged slice reading.bytes reading.judge

-- where the judge accepts, the first bytes of the slice are a list that is accepted
abbrev pub Accepts : List ℕ → ℕ → Judge → Type 0
Accepts slice bytes judge = verdict_of judge ≡ Ok tt → list_checked (take bytes slice) ≡ Ok tt

-- the line that a call has written lies in its room, and the call does not refuse
abbrev pub Within : ℕ → Result ℕ Refusal → Type 0
Within room (Ok n) = n ≤ room
Within room (Err r) = ⊥

-- the totals are those of one outcome for each line of the list
abbrev pub OfList : List ℕ → Totals → Type 0
OfList list totals = (outcomes : List Outcome) × OfFiles outcomes × (length outcomes ≡ length (lines_of list)) × (totals ≡ totals_of outcomes)
