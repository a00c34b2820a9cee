-- `reports::read_and_count` meets its contract. Assumes nothing.
use Rattle.std.proofs.Common.{rules, ◌≡◌, sym, ap, ◌∙◌, refl}
use Rattle.std.specs.Prelude.{Result, Ok, Err}
use Rattle.refusals.specs.declared.Refusal.{Refusal}
use Rattle.reports.specs.declared.Counts.{Counts}
use Rattle.files.specs.Layout.{counts_family}
use Rattle.files.proofs.Accepts.{file_fine}
use Rattle.files.proofs.Held.{held}
use Rattle.reports.proofs.Counted.{runs, read_refused}
use Rattle.reports.proofs.read_and_count.Goals as goal

pub count_scan-requires : goal.count_scan-requires
count_scan-requires c =
    let h = held c.in_ok-sizes.ensures refl in
    rw (h.terms_held, h.samples_held) (runs c.args.file.now h.readable)

pub returns : goal.returns
returns c =
    let h = held c.in_ok-sizes.ensures refl in
    let told : Counts → Result Counts Refusal = λ n. Ok n in
    rw (file_fine counts_family c.args.file.now h.readable)
    (ap told (c.count_scan.ensures ∙ rw (h.terms_held, h.samples_held)))

pub returns-in_err-sizes : goal.returns-in_err-sizes
returns-in_err-sizes c =
    let e : c.from_residual.result ≡ Err c.in_err-sizes.field-0.0 = search rules in
    e ∙ sym (read_refused c.in_err-sizes.ensures c.requires.0 c.requires.1)
