-- Small numbers are read back as they are.
use Rattle.std.proofs.Common.{ap, ◌∙◌}
use Rattle.recipes.specs.Private.{within}
use Rattle.recipes.specs.Machine.{both_reach}
use Rattle.recipes.proofs.Reaches.{reach_by, read_min, read_max}
use Rattle.recipes.proofs.Reach.joined.Goals as goal

pub returns : goal.returns
unfolding both_reach
returns c =
    let s = c.self.inside in
    let l = c.last.inside in
    rw (← c.self.view_is, ← c.last.view_is)
    (c.new.ensures ∙ ap within (reach_by (read_min s.lo l.lo c.self.invariant.0 c.last.invariant.0 c.min.result c.min.type_inv c.min.ensures.value)
    (read_max s.hi l.hi c.self.invariant.1 c.last.invariant.1 c.max.result c.max.type_inv c.max.ensures.value)))
