-- Of a file that is too long the length decides what it is refused for, so the file may as well be zeros.
use Rattle.std.proofs.Common.{ℕ, zero, suc, arith, sym, ap, ◌∙◌, replicate, Result}
use Rattle.refusals.specs.declared.Refusal.{Refusal}
use Rattle.refusals.specs.Numbers.{noticed}
use Rattle.reports.specs.declared.Counts.{Counts}
use lib.ListN.{length-replicate}
use Rattle.files.specs.Causes.{Bytes}
use Rattle.reports.proofs.Lengths.{length-counted}
use Rattle.totals.specs.declared.Outcome.TheVariants.{Opened}
use Rattle.totals.specs.Nights.{opened}
use Rattle.night.proofs.outcome_of_read.Goals as goal

zeros : (n : ℕ) → Bytes (replicate n 0)
zeros zero i = omega arith
zeros (suc n) zero = omega arith
zeros (suc n) (suc i) = zeros n i

pub returns-in-Err-clause-of_file : goal.returns-in-Err-clause-of_file
returns-in-Err-clause-of_file c =
    let whole = c.in-Err.whole in
    let n = whole.length in
    let f = replicate n 0 in
    rw c.from.ensures (opened f (zeros n) _ (c.refuse_length.ensures ∙ sym (length-counted f (length-replicate n 0) whole.long)))

pub returns-in-Err-clause-counted : goal.returns-in-Err-clause-counted
returns-in-Err-clause-counted c f is =
    let long = rw c.in-Err.is at is in
    c.from.ensures ∙ ap (λ (a : Result Counts Refusal). Opened (noticed a)) (c.refuse_length.ensures ∙ sym (length-counted f long c.in-Err.whole.long))
