use Rattle.std.proofs.Common.{rules, arith, ap₂, ◌∙◌}
use Rattle.theory.proofs.Fills.{fill_none, fill_more}
use Rattle.scans.proofs.Fills.{fill_whole}
use Rattle.scans.proofs.Windows.{here_in, cleaned_in, raw_in}
use Rattle.scans.proofs.Run.fill.Goals as goal

pub loop-x-init : goal.loop-x-init
loop-x-init g c = (fill_none _ _, record { is = c.enter-near.ensures })

pub loop-x-preserved : goal.loop-x-preserved
loop-x-preserved g c =
    let near = c.loop-x.invariant.1 in
    let here = c.move_on-here.ensures in
    let raw = raw_in near here c.middle.ensures (search rules) in
    let cleaned = cleaned_in near here c.args.self.now.terms.now c.value.ensures in
    (fill_more c.loop-x.invariant.0 (omega arith) (c.left.ensures ∙ ap₂ g.T.Left.left raw cleaned), here_in near here)

pub returns : goal.returns
returns g c = ((fill_whole c.loop-x.invariant.0 (omega arith) c.requires).1, search rules)
