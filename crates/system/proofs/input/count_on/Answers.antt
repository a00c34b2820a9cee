use Rattle.std.proofs.Common.{arith, ◌≤◌, ◌++◌, length, length-append, take}
use Rattle.std.proofs.lemmas.List.{length-take-le}
use Rattle.system.proofs.Bytes.{takes_both}
use Rattle.system.proofs.input.count_on.Goals as goal

pub loop-preserved : goal.loop-preserved
loop-preserved g c =
    let read = c.in_ok-more.ensures in
    let more = rw c.in-Some.is at read.more in
    let taken = rw c.in-Some.is at read.taken in
    let was = c.loop.invariant in
    let input = c.read_more.new.input in
    let n = c.in-Some.more in
    let within : n ≤ length input = omega (arith, more.within) in
    record {
      more = omega arith;
      few = omega (arith, within);
      counted = (
        was.counted.0 ++ take n input,
        takes_both _ _ _ _ _ was.counted.1 taken,
        omega (arith, was.counted.2, length-append was.counted.0 (take n input), length-take-le n input within),
      );
    }
