use Rattle.std.proofs.Common.{rules, ℕ, ◌+◌, arith, ◌≡◌, ap, ◌∙◌, length, get_or}
use Rattle.limits.specs.Limits.{width}
use Rattle.theory.specs.Signals.{wide, window}
use Rattle.theory.proofs.Fills.{fill_none, fill_more}
use Rattle.windows.specs.Columns.{position_in}
use Rattle.scans.specs.Private.{moved_on}
use Rattle.scans.proofs.Fills.{fill_whole}
use Rattle.scans.proofs.Windows.{column_lt}
use Rattle.scans.proofs.take_in.Goals as goal

pub loop-i-init : goal.loop-i-init
loop-i-init c = fill_none _ _

pub overflow_add-column : goal.overflow_add-column
overflow_add-column c = let i = c.loop-i.i in
    let k = column_lt i c.column.result c.column.ensures (search rules) in
    omega arith

pub loop-i-preserved : goal.loop-i-preserved
loop-i-preserved c =
    let near = c.args.near in
    let arriving = c.args.arriving in
    let from = c.position-from.result in
    let whole : length near ≡ width = search rules in
    let is : from ≡ position_in (window.column c.loop-i.i + 1) =
    c.position-from.ensures ∙ ap (λ (k : ℕ). position_in (k + 1)) c.column.ensures in
    let value : c.unwrap_or.result ≡ get_or near from arriving = search rules in
    fill_more c.loop-i.invariant (omega arith) (value ∙ ap (λ (k : ℕ). get_or near k arriving) is)

pub returns : goal.returns
unfolding moved_on position_in wide window
returns c = let whole : length c.args.near ≡ width = search rules in
    (fill_whole c.loop-i.invariant (omega arith) whole).1
