use Rattle.std.proofs.Common.{arith, refl, ◌∙◌, get_or}
use Rattle.files.specs.Bytes.{in_words}
use Rattle.files.proofs.Numbers.{two_is, put_next}
use Rattle.files.proofs.put_words.Goals as goal

pub loop-i-init : goal.loop-i-init
unfolding in_words
loop-i-init c = refl

pub loop-i-preserved : goal.loop-i-preserved
loop-i-preserved c =
    put_next c.args.numbers.now c.args.out.now c.loop-i.out c.copy_from_slice.new.self c.loop-i.i _ (omega arith) (omega arith) c.loop-i.invariant
    (c.copy_from_slice.ensures.after ∙ c.to_le_bytes.ensures ∙ two_is (get_or c.args.numbers.now c.loop-i.i 0) (omega (arith, c.type_inv.numbers c.loop-i.i)))
