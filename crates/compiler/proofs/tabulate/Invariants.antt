-- `compiler::tabulate` meets its contract: the bytes of the batches so far are written. Assumes nothing.
use Rattle.std.proofs.Common.{◌*◌, min}
use Rattle.limits.specs.Limits.{table_bytes}
use Rattle.theory.proofs.Fills.{Filled}
use Rattle.tables.proofs.Bytes.{byte_of}
use Rattle.recipes.specs.Meaning.{truth_of}
use Rattle.compiler.specs.Private.{batch_bytes}
use Rattle.compiler.proofs.tabulate.Given as goal

abbrev pub invariant-loop-batch : goal.invariant-loop-batch
invariant-loop-batch l = Filled (byte_of (truth_of l.recipe.bytes.now)) l.initial.table l.table (min table_bytes (l.batch * batch_bytes))
