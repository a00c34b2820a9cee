use Rattle.std.proofs.Common.{rules, arith, sym, ◌∙◌}
use Rattle.theory.specs.Forms.{holds}
use Rattle.theory.proofs.Searches.{index_by, index_no}
use Rattle.tables.proofs.holds_on.Goals as goal

pub returns-then-is_within : goal.returns-then-is_within
unfolding holds
returns-then-is_within c =
    sym (index_by 0 _ _ c.loop-term.term-index (search rules) (sym c.is_within.ensures ∙ c.if-is_within.true))

pub returns : goal.returns
unfolding holds
returns c = sym (index_no 0 _ _ (λ k l. c.loop-term.invariant.1 k (omega arith)))
