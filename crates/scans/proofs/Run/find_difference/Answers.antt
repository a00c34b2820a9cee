use Rattle.std.proofs.Common.{rules, eq-eqb, ne_eqb, below_more, arith, true, ◌≡◌, length}
use Rattle.theory.proofs.Lists.{first_at, any_below-at, any_below_none}
use Rattle.scans.specs.Run.{differs, root_found}
use Rattle.scans.specs.Private.{value_around}
use Rattle.scans.proofs.Windows.{here_in, cleaned_in, raw_in}
use Rattle.scans.proofs.Run.find_difference.Goals as goal

pub returns-then-middle-value : goal.returns-then-middle-value
unfolding differs root_found
returns-then-middle-value c =
    let a = c.args.self.now in
    let near = c.loop-x.invariant.1 in
    let here = c.move_on-here.ensures in
    let raw = raw_in near here c.middle.ensures (search rules) in
    let cleaned = cleaned_in near here a.terms.now c.value.ensures in
    let s = a.scan.now in
    let x = c.loop-x.x in
    let d = differs (value_around a.ends.left a.ends.right a.terms.now s) s in
    let differing : d x ≡ true = rw (← raw, ← cleaned, ne_eqb _ _ c.if-middle-value.true) in
    rw (
      any_below-at d (length s) x (search rules) c.loop-x.invariant.0 differing,
      first_at d (length s) x (search rules) c.loop-x.invariant.0 differing,
    )

pub loop-x-preserved : goal.loop-x-preserved
unfolding differs
loop-x-preserved c =
    let a = c.args.self.now in
    let near = c.loop-x.invariant.1 in
    let here = c.move_on-here.ensures in
    let raw = raw_in near here c.middle.ensures (search rules) in
    let cleaned = cleaned_in near here a.terms.now c.value.ensures in
    (below_more _ _ c.loop-x.invariant.0 (rw (← raw, ← cleaned, eq-eqb _ _ c.if-middle-value.false)), here_in near here)

pub returns : goal.returns
unfolding root_found
returns c =
    let a = c.args.self.now in
    let s = a.scan.now in
    let d = differs (value_around a.ends.left a.ends.right a.terms.now s) s in
    rw (any_below_none d (length s) (λ k l. c.loop-x.invariant.0 k (omega arith)))
