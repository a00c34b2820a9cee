-- `reports::clean_and_count` meets its contract. Assumes nothing.
use Rattle.std.proofs.Common.{arith, ◌∙◌, length}
use Rattle.theory.specs.Signals.{held}
use Rattle.reports.proofs.Counted.{run_short, run_cleaned, cleaned_counts}
use Rattle.reports.proofs.clean_and_count.Goals as goal

pub count_residues-requires : goal.count_residues-requires
count_residues-requires c =
    let a = c.args in
    let fit = run_short a.terms.now a.scan.now (length a.scan.now) c.requires.runs in
    omega arith

pub returns : goal.returns
returns c =
    let a = c.args in
    let filled = run_cleaned a.terms.now a.scan.now a.cleaned.now _ _ c.clean.ensures (rw c.requires.room c.requires.runs) in
    c.count_residues.ensures ∙ rw filled (cleaned_counts held a.terms.now a.scan.now)
