use Rattle.std.proofs.Common.{sym, ap, ◌∙◌, Result}
use Rattle.refusals.specs.declared.Refusal.{Refusal}
use Rattle.refusals.specs.Numbers.{noticed}
use Rattle.reports.specs.declared.Counts.{Counts}
use Rattle.totals.specs.declared.Outcome.TheVariants.{Opened}
use Rattle.reports.proofs.Lengths.{length-counted}
use Rattle.report.proofs.write_line.Goals as goal

pub returns-in-Err : goal.returns-in-Err
returns-in-Err c f is =
    let long = rw c.in-Err.is at is in
    let told = c.from-outcome.ensures ∙ ap (λ (a : Result Counts Refusal). Opened (noticed a)) (c.refuse_length.ensures ∙ sym (length-counted f long c.in-Err.whole.long)) in
    rw told at c.outcome_line.ensures
