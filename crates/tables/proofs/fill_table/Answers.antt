use Rattle.std.proofs.Common.{ℕ, arith, ap, ◌∙◌}
use Rattle.theory.specs.Lists.{tab}
use Rattle.theory.specs.Forms.{holds}
use Rattle.theory.specs.Tables.{table_of}
use Rattle.theory.proofs.Fills.{fill_none, fill_more, fill_all}
use Rattle.tables.proofs.Bytes.{byte_of}
use Rattle.tables.proofs.fill_table.Goals as goal

pub loop-j-init : goal.loop-j-init
loop-j-init c = fill_none _ _

pub loop-j-preserved : goal.loop-j-preserved
loop-j-preserved c = fill_more c.loop-j.invariant (omega arith) c.byte_of.ensures

pub returns : goal.returns
unfolding table_of
returns c =
    fill_all c.loop-j.invariant (omega arith) ∙ ap (λ (n : ℕ). tab n (byte_of (holds c.args.terms.now))) c.requires
