-- What the compiler makes of a recipe's verdict and of its truth table is what it promises.
-- Assumes nothing.
use Rattle.std.specs.Prelude.{Result, Ok, Err}
use Prim.Native.Nat.{ℕ}
use mathlib.Core.Path.{◌≡◌, sym, ◌∙◌, subst}
use mathlib.Core.List.{List}
use Rattle.limits.specs.Limits.{width, table_bytes}
use Rattle.theory.specs.Forms.{Positive}
use Rattle.theory.specs.Tables.{table_of}
use Rattle.theory.specs.Signals.{window, wide}
use Rattle.theory.proofs.Signals.{window_fair}
use Rattle.theory.proofs.Truth.{truth_positive}
use Rattle.refusals.specs.declared.Refusal.{Refusal}
use Rattle.tables.specs.Tables.{TableToForm}
use Rattle.tables.proofs.Accepted.{gives_refused}
use Rattle.tables.proofs.Tabulated.{tabulated_gives}
use Rattle.recipes.specs.Judge.{recipe_checked}
use Rattle.recipes.specs.Meaning.{truth_of}
use Rattle.recipes.proofs.Plans.{plan_of, truth_plan}
use Rattle.compiler.specs.Compile.{compiled_form, compile_checked, Compile}
use Rattle.compiler.proofs.Demand.{accepted_faithful}

-- a recipe's Boolean function is positive
pub recipe_positive : (r : List ℕ) → Positive width (truth_of r)
unfolding window wide
recipe_positive r u v l e h = truth_plan r v ∙ truth_positive window window_fair (plan_of r) u v l e (sym (truth_plan r u) ∙ h)

pub compile_refused : (r old : List ℕ) (x : Refusal) → recipe_checked r ≡ Err x → Compile r old old (Err x)
unfolding compile_checked
compile_refused r old x e = record { gives = gives_refused (rw e); faithful = accepted_faithful r }

pub compile_done : (r table old new : List ℕ) (a : Result ℕ Refusal) → recipe_checked r ≡ Ok tt → table ≡ table_of table_bytes (truth_of r)
    → TableToForm table old new a → Compile r old new a
unfolding compile_checked compiled_form
compile_done r table old new a fine e formed =
    let gives = tabulated_gives (truth_of r) (recipe_positive r) old new a (subst (λ (t : List ℕ). TableToForm t old new a) e formed) in
    record { gives = record { answer = rw fine gives.answer; out = rw fine gives.out }; faithful = accepted_faithful r }
