-- `values::value` meets its contract. The loop keeps: the larger of m and what the terms left give is what all terms give. Assumes nothing.
use Rattle.std.proofs.Common.{◌≡◌, drop}
use Rattle.theory.specs.Orders.{counts, larger}
use Rattle.values.proofs.Counts.{gives}
use Rattle.values.proofs.value.Given as goal

abbrev pub invariant-loop-term : goal.invariant-loop-term
invariant-loop-term l = larger counts l.m (gives l.near (drop l.term-index l.terms)) ≡ gives l.near l.terms
