-- `tables::Steady::fill_terms` meets its contract: the terms below v stand in front. Assumes nothing.
use Rattle.std.proofs.Common.{◌≡◌, ◌++◌, length, drop}
use Rattle.theory.specs.Forms.{minimal}
use Rattle.theory.specs.Tables.{table_at}
use Rattle.theory.proofs.Keeps.{kept}
use Rattle.tables.proofs.Steady.fill_terms.Given as goal

abbrev pub invariant-loop-v : goal.invariant-loop-v
invariant-loop-v l = (l.n ≡ length (kept (minimal (table_at l.self.table.now)) l.v))
    × (l.terms ≡ kept (minimal (table_at l.self.table.now)) l.v ++ drop (length (kept (minimal (table_at l.self.table.now)) l.v)) l.initial.terms)
