use Rattle.recipes.proofs.Turns.{AtStep}
use Rattle.recipes.proofs.judge_steps.Given as goal

abbrev pub invariant-loop-place : goal.invariant-loop-place
invariant-loop-place l = AtStep l.recipe l.place l.held.reaches.items
