-- `compiler::compile` meets its contract: a refused recipe changes nothing, and an accepted one becomes the form of its truth table.
-- Assumes nothing.
use Rattle.compiler.proofs.Compiles.{compile_done}
use Rattle.compiler.proofs.compile.Goals as goal

pub returns : goal.returns
returns c =
    let e = c.in_ok-recipe.ensures.ok in
    compile_done _ _ _ _ _ (rw e at c.in_ok-recipe.recipe.fine) (rw e at c.tabulate-table.ensures) c.table_to_form.ensures
