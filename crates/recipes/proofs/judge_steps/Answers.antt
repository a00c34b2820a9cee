-- `judge_steps` meets its contract.
-- Assumes nothing.
use Rattle.std.proofs.Common.{rules, arith, sym, ◌∙◌, ◌≡◌, ◌/◌, Err, length, ne_eqb}
use Rattle.limits.specs.Limits.{step_bytes}
use Rattle.recipes.proofs.Turns.{at_start, turn_bad, turn_refused, turn_on, turn_end}
use Rattle.recipes.proofs.judge_steps.Goals as goal

pub returns-in_default : goal.returns-in_default
returns-in_default c =
    let told : c.map.result ≡ Err c.in_default.field-0 = rw c.in_default.is at c.map.ensures.cases in
    told ∙ sym (turn_bad c.loop-place.invariant c.loop-place-test.true c.in_default.field-0 (sym c.step_at-decoded.ensures ∙ c.in_default.is))

pub loop-place-init : goal.loop-place-init
loop-place-init c = rw c.new.ensures (at_start _)

pub returns-in_err-perform : goal.returns-in_err-perform
returns-in_err-perform c =
    let decoded = sym c.step_at-decoded.ensures ∙ c.in-Ok.is in
    let told : c.from_residual.result ≡ Err c.in_err-perform.field-0.0 = search rules in
    told ∙ sym (turn_refused c.loop-place.invariant c.loop-place-test.true c.in-Ok.step decoded _ (sym c.in_err-perform.ensures.answer))

pub loop-place-preserved : goal.loop-place-preserved
loop-place-preserved c =
    let decoded = sym c.step_at-decoded.ensures ∙ c.in-Ok.is in
    let done = c.in_ok-perform.ensures in
    turn_on c.loop-place.invariant c.loop-place-test.true c.in-Ok.step decoded (sym done.answer) done.held

pub returns-then-len-ne1 : goal.returns-then-len-ne1
returns-then-len-ne1 c =
    let e : c.loop-place.place ≡ length c.args.recipe.now / step_bytes = omega arith in
    rw (turn_end c.loop-place.invariant e, ne_eqb (length c.loop-place.held.reaches.items) 1 (rw c.len.ensures.value at c.if-len-ne1.true))

pub returns : goal.returns
returns c =
    let e : c.loop-place.place ≡ length c.args.recipe.now / step_bytes = omega arith in
    rw (turn_end c.loop-place.invariant e, rw c.len.ensures.value at c.if-len-ne1.false)
