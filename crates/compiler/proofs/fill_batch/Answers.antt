-- `compiler::fill_batch` meets its contract: the scan shows the patterns, and the run's middles are their truth values. Assumes nothing.
use Rattle.std.proofs.Common.{rules}
use Rattle.compiler.proofs.Batches.{batch_read}
use Rattle.compiler.proofs.fill_batch.Goals as goal

pub returns : goal.returns
returns c =
    let r = c.requires in
    batch_read _ _ _ _ _
    (record { fine = c.args.recipe.now.fine; nonempty = r.nonempty; few = r.few; scanned = search rules; lent = search rules; tabled = r.tabled })
    _ _ _ _ c.show_patterns.ensures (rw c.bytes.ensures at c.run.ensures) c.read_bytes.ensures
