use Rattle.std.proofs.Common.{arith, rules, ◌+◌, ◌*◌}
use Rattle.bits.proofs.Bytes.{Gathered, gathered_none, gathered_more, gathered_fits, gathered_all, from_bool_is}
use Rattle.bits.proofs.byte.Goals as goal
use Rattle.bits.proofs.byte.Goals.{In-Some, After-from}

pub loop-bit-init : goal.loop-bit-init
loop-bit-init c =
    rw (c.into_iter-bit-iterator.ensures.into_iter_gives, c.rev-bit-items.ensures.source, c.iter.ensures.rest) (gathered_none c.args.bits (search rules))

more : (c : After-from) → Gathered c.args.bits c.next.new.self.iter.rest.now (c.loop-bit.byte * 2 + c.from.result)
more c = rw (c.from.ensures, from_bool_is c.in-Some.field-0.now) (gathered_more c.args.bits _ _ _ _ c.loop-bit.invariant c.in-Some.ensures.steps)

pub overflow_mul-byte : goal.overflow_mul-byte
overflow_mul-byte c = omega (arith, gathered_fits _ _ _ (gathered_more c.args.bits _ _ _ _ c.loop-bit.invariant c.in-Some.ensures.steps))

pub overflow_add-byte : goal.overflow_add-byte
overflow_add-byte c = omega (arith, gathered_fits _ _ _ (more c))

pub loop-bit-preserved : goal.loop-bit-preserved
loop-bit-preserved c = more c

pub returns : goal.returns
returns c = gathered_all _ _ _ c.loop-bit.invariant c.in-None.ensures.steps.0
