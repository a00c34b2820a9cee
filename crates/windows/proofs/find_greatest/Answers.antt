use Rattle.std.proofs.Common.{arith, sym, ◌∙◌}
use Rattle.limits.specs.Limits.{width}
use Rattle.windows.specs.Private.{stands}
use Rattle.windows.proofs.Searches.{above_none, above_more}
use Rattle.windows.proofs.find_greatest.Goals as goal

pub loop-k-init : goal.loop-k-init
loop-k-init c = above_none (stands c.args.set) width

pub loop-k-preserved : goal.loop-k-preserved
loop-k-preserved c =
    above_more (stands c.args.set) width c.loop-k.k c.loop-k-test.true c.loop-k.invariant (sym c.stands.ensures ∙ c.if-stands.false)

pub returns-then-stands : goal.returns-then-stands
returns-then-stands c =
    (omega arith, sym c.stands.ensures ∙ c.if-stands.true, λ j l u. c.loop-k.invariant j (omega arith) u)

pub returns : goal.returns
returns c = λ j l u. c.loop-k.invariant j (omega arith) u
