use Rattle.std.proofs.Common.{arith}
use Rattle.totals.specs.Nights.{opened}
use Rattle.night.proofs.outcome_of_bytes.Goals as goal

pub returns-clause-of_file : goal.returns-clause-of_file
returns-clause-of_file c = rw c.from.ensures (opened c.args.file.now (λ k. omega (arith, c.type_inv.file k)) _ c.count.ensures)
