use Rattle.std.proofs.Common.{arith, refl}
use Rattle.system.proofs.Bytes.{read_stands}
use Rattle.system.proofs.input.read_more.Goals as goal

pub returns-in-Ok-clause-taken : goal.returns-in-Ok-clause-taken
returns-in-Ok-clause-taken g c =
    rw (read_stands c.args.bytes c.in-Ok.more _ c.args.input.now c.read.new.buf _ (omega arith) c.in-Ok.ensures.bound.0 refl) c.in-Ok.ensures.bytes.0
