-- `tables::holds_on` meets its contract: no term passed so far lies within v. Assumes nothing.
use Rattle.std.proofs.Common.{ℕ, ◌≤◌, ◌<◌, ◌≡◌, false, length, get_or}
use Rattle.theory.specs.Sets.{within}
use Rattle.tables.proofs.holds_on.Given as goal

abbrev pub invariant-loop-term : goal.invariant-loop-term
invariant-loop-term l = (l.term-index ≤ length l.terms) × ((k : ℕ) → k < l.term-index → within (get_or l.terms k 0) l.v ≡ false)
