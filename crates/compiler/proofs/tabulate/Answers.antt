use Rattle.std.proofs.Common.{arith, min, ◌+◌, ◌*◌, ◌≡◌}
use Rattle.limits.specs.Limits.{table_bytes}
use Rattle.theory.specs.Tables.{table_of}
use Rattle.theory.proofs.Fills.{fill_none, fill_all}
use Rattle.recipes.specs.Meaning.{truth_of}
use Rattle.compiler.specs.Private.{batch_bytes}
use Rattle.compiler.proofs.Batches.{batch_filled}
use Rattle.compiler.proofs.tabulate.Goals as goal

pub loop-batch-init : goal.loop-batch-init
loop-batch-init c = fill_none _ _

pub loop-batch-preserved : goal.loop-batch-preserved
loop-batch-preserved c =
    let batch = c.loop-batch.batch in
    let next = c.min-next.result in
    let here : min table_bytes (batch * batch_bytes) ≡ batch * batch_bytes = omega arith in
    let there : min table_bytes ((batch + 1) * batch_bytes) ≡ next = omega arith in
    rw there (batch_filled (truth_of c.args.recipe.now.bytes.now) (rw here at c.loop-batch.invariant) next _ (omega arith) (omega arith) c.fill_batch.ensures)

pub returns : goal.returns
unfolding table_of
returns c = fill_all c.loop-batch.invariant (omega arith)
