use Rattle.std.proofs.Common.{arith, ◌+◌, List, ℕ, ap, ◌∙◌, length, drop}
use Rattle.std.proofs.lemmas.List.{take_rest, drop-drop, length-drop}
use Rattle.std.proofs.Math.Seq.{take-add}
use Rattle.system.proofs.Bytes.{grows_twice}
use Rattle.system.proofs.tell.write_line.Goals as goal

pub loop-rest-preserved : goal.loop-rest-preserved
loop-rest-preserved g c =
    let line = c.args.line.now in
    let rest = c.loop-rest.rest.now in
    let (n, fit, at, grown) = c.loop-rest.invariant in
    let taken = c.in_ok-taken.taken in
    let wrote = rw at at c.in_ok-taken.ensures.bytes in (
      n + taken,
      omega (arith, fit, c.in_ok-taken.ensures.bound, ap (λ (xs : List ℕ). length xs) at, length-drop n line),
      take_rest rest taken ∙ ap (λ (xs : List ℕ). drop taken xs) at ∙ drop-drop taken n line,
      rw (take-add n taken line) (grows_twice _ _ _ _ _ grown wrote),
    )
