-- `runner::Stack::join` pairs the row under the last one with the last. Assumes nothing.
use Rattle.std.proofs.Common.{arith, refl}
use Rattle.runner.proofs.Written.{joined_last}
use Rattle.runner.proofs.Stack.join.Goals as goal

pub returns : goal.returns
returns g c =
    let s = c.args.self.now in
    record {
      row = refl;
      rows = joined_last (record { short = s.short; deep = s.deep; few = s.few }) g.C.Choice.HIGH c.start-under.result _ _
          c.requires c.start-under.ensures.0 (omega arith) c.pair_halves.ensures;
    }
