use Rattle.std.proofs.Common.{◌≡◌, ℕ, ◌<◌, ◌≤◌, List, arith, length}
use Rattle.lists.specs.Names.{line_end}
use Rattle.lists.proofs.Ends.{end_within}
use Rattle.night.proofs.Sheets.{sheet_starts, sheet_goes_on, sheet_ends}
use Rattle.night.proofs.Sheet.print_files.Goals as goal

-- the line at hand lies in the list
line_within : (text : List ℕ) (place end : ℕ) → place < length text → end ≡ line_end text place → (place ≤ end) × (end ≤ length text)
line_within text place end h e = rw e (end_within text place (omega arith))

pub loop-place-init : goal.loop-place-init
loop-place-init g c = rw c.start-totals.ensures (sheet_starts c.args.text.now)

pub slice_bounds-outcome_of-count : goal.slice_bounds-outcome_of-count
slice_bounds-outcome_of-count g c = (line_within c.args.text.now c.loop-place.place _ c.loop-place-test.true c.line_end-end.ensures).0

pub slice_bounds-outcome_of-start : goal.slice_bounds-outcome_of-start
slice_bounds-outcome_of-start g c = (line_within c.args.text.now c.loop-place.place _ c.loop-place-test.true c.line_end-end.ensures).0

pub slice_bounds-outcome_of-end : goal.slice_bounds-outcome_of-end
slice_bounds-outcome_of-end g c = (line_within c.args.text.now c.loop-place.place _ c.loop-place-test.true c.line_end-end.ensures).1

pub loop-place-smaller : goal.loop-place-smaller
loop-place-smaller g c =
    omega (arith, (line_within c.args.text.now c.loop-place.place _ c.loop-place-test.true c.line_end-end.ensures).0, c.loop-place-test.true)

pub loop-place-preserved : goal.loop-place-preserved
loop-place-preserved g c =
    rw (c.add-totals.ensures, c.line_end-end.ensures)
    (sheet_goes_on c.args.text.now c.loop-place.place c.loop-place.totals c.outcome_of-outcome.result c.loop-place-test.true c.outcome_of-outcome.ensures c.loop-place.invariant)

pub returns : goal.returns
returns g c =
    sheet_ends c.args.text.now c.loop-place.place c.loop-place.totals c.requires (omega arith) c.loop-place.invariant
