use Rattle.std.proofs.Common.{arith, ℕ, ap, min, ◌≡◌, ◌+◌, ◌*◌, ◌∙◌, pos, length}
use Rattle.std.proofs.lemmas.Grind.{div_ceil_times}
use Rattle.theory.specs.Lists.{tab}
use Rattle.theory.proofs.Fills.{fill_none, fill_all}
use Rattle.rows.specs.Private.{piece}
use Rattle.runner.specs.Private.{made_between, values_between}
use Rattle.runner.proofs.Pieces.{filled_piece}
use Rattle.runner.proofs.Job.fill.Goals as goal

pub loop-k-init : goal.loop-k-init
loop-k-init c = let none : min (length c.args.self.now.scan.now) 0 ≡ 0 = omega arith in rw none (fill_none _ _)

pub fill_piece-requires : goal.fill_piece-requires
fill_piece-requires c =
    let all = div_ceil_times (length c.args.self.now.scan.now) piece (omega arith) in
    (omega arith, omega (arith, all.1))

pub loop-k-preserved : goal.loop-k-preserved
loop-k-preserved c =
    let n = length c.args.self.now.scan.now in
    let k = c.loop-k.k in
    let all = div_ceil_times n piece (omega arith) in
    let here : min n (k * piece) ≡ k * piece = omega (arith, all.1) in
    let next : min n ((k + 1) * piece) ≡ min (k * piece + piece) n = omega arith in
    let run = c.fill_piece.ensures in
    rw next (filled_piece (rw here at c.loop-k.invariant) _ _ run.more (omega (arith, run.short)) run.out)

pub returns : goal.returns
unfolding values_between
returns c =
    let s = c.args.self.now in
    let all = div_ceil_times (length s.scan.now) piece (omega arith) in
    fill_all c.loop-k.invariant (omega (arith, all.0))
    ∙ ap (λ (n : ℕ). tab n (λ x. made_between s.beyond.left s.beyond.right s.recipe.bytes.now s.scan.now (pos x))) c.requires
