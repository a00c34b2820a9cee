use Rattle.std.proofs.Common.{ℕ, ◌-◌, ◌≡◌, List, refl, zero-le, length, take, arith}
use Rattle.std.proofs.lemmas.List.{length-take-le, get_or-take}
use Rattle.lines.proofs.Numbers.{spaced, spaced_more, spaced_last}
use Rattle.lines.proofs.Puts.{put_same, put_then}
use Rattle.lines.proofs.put_numbers.Goals as goal

pub loop-number-init : goal.loop-number-init
unfolding spaced
loop-number-init c = (record { out = refl; next = refl; room = zero-le }, zero-le)

-- how many numbers have a space behind them
front : (numbers : List ℕ) → length (take (length numbers - 1) numbers) ≡ length numbers - 1
front numbers = length-take-le (length numbers - 1) numbers (omega arith)

pub loop-number-preserved : goal.loop-number-preserved
loop-number-preserved c =
    let numbers = c.args.numbers.now in
    let i = c.loop-number.number-index in
    let done = c.loop-number.invariant in
    let here = get_or-take (length numbers - 1) numbers i 0 (omega (arith, front numbers)) in
    let next = rw here at (put_then done.0 c.put_number-at.ensures.0) in (
      put_same (spaced_more numbers i (omega (arith, front numbers))) next,
      omega (arith, done.1, c.put_number-at.ensures.1),
    )

pub returns : goal.returns
returns c =
    let numbers = c.args.numbers.now in
    let last = length numbers - 1 in
    let all : c.loop-number.number-index ≡ last = omega (arith, front numbers) in
    let done = rw all at c.loop-number.invariant.0 in
    put_same (spaced_last numbers last (omega arith)) (put_then done c.put_number.ensures.0)
