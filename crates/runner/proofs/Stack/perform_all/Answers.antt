use Rattle.std.proofs.Common.{arith, refl, sym, ◌∙◌}
use Rattle.runner.proofs.Performs.{going_start, going_good, going_ready, going_on, going_end}
use Rattle.runner.proofs.Stack.perform_all.Goals as goal

pub loop-i-init : goal.loop-i-init
loop-i-init c = rw c.steps-steps.ensures (going_start _ _ _ _ _ c.args.recipe.now.fine, refl)

pub returns-in_default : goal.returns-in_default
returns-in_default c =
    going_good c.loop-i.invariant.0 (omega arith) _ (sym c.step_at-decoded.ensures ∙ c.in_default.is)

pub perform-requires : goal.perform-requires
perform-requires c =
    (c.loop-i.invariant.1, going_ready c.loop-i.invariant.0 (omega arith) _ (sym c.step_at-decoded.ensures ∙ c.in-Ok.is))

pub loop-i-preserved : goal.loop-i-preserved
loop-i-preserved c =
    let done = c.perform.ensures in
    let same = done.row ∙ c.loop-i.invariant.1 in
    (going_on c.loop-i.invariant.0 (omega arith) _ (sym c.step_at-decoded.ensures ∙ c.in-Ok.is) _ _ (rw (same, c.loop-i.invariant.1) at done.rows), same)

pub returns : goal.returns
returns c = going_end c.loop-i.invariant.0 (omega arith)
