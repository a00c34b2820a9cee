-- `lines::put_number` meets its contract: the toolchain's digits are the number's. Assumes nothing.
use Rattle.std.proofs.Common.{ℕ, arith, ◌≡◌, ap, ◌∙◌, [], ◌∷◌, length-append, take}
use Rattle.io.specs.Digits.{last_digits}
use Rattle.lines.specs.Lines.{decimal}
use Rattle.lines.proofs.Decimals.{length-decimal, digits_fewest, digits_short}
use Rattle.lines.proofs.put_number.Goals as goal

pub returns : goal.returns
unfolding decimal
returns c =
    let a = c.args in
    let k = c.decimal-n.result in
    let few = digits_fewest a.number k c.decimal-n.ensures.len in
    let text : take k c.decimal-n.new.out ≡ decimal a.number =
    c.decimal-n.ensures.digits ∙ ap (λ (m : ℕ). last_digits 10 m a.number) few in
    let line = rw text at c.put_field.ensures in
    (line, omega (arith, line.next, length-append (decimal a.number) (a.end ∷ []), length-decimal a.number, digits_short a.number c.ranges.number.fits))
