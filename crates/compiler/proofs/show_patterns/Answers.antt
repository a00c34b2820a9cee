use Rattle.std.proofs.Common.{◌≡◌, ◌+◌, ◌*◌, arith, refl}
use Rattle.limits.specs.Limits.{width}
use Rattle.theory.proofs.Fills.{fill_none, fill_all}
use Rattle.compiler.proofs.Batches.{pattern_filled}
use Rattle.compiler.proofs.show_patterns.Goals as goal

pub loop-i-init : goal.loop-i-init
loop-i-init c = fill_none _ _

pub loop-i-preserved : goal.loop-i-preserved
loop-i-preserved c =
    let i = c.loop-i.i in
    let next : i * width + width ≡ (i + 1) * width = omega arith in
    rw (← next) (pattern_filled c.args.first i c.loop-i.invariant refl _ (omega arith) c.show_pattern.ensures)

pub returns : goal.returns
returns c = fill_all c.loop-i.invariant (omega arith)
