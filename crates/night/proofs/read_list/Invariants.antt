use Rattle.std.proofs.Common.{◌≡◌, ◌+◌, ◌≤◌, length}
use Rattle.limits.specs.Limits.{longest_list}
use Rattle.night.specs.Private.{Judged}
use Rattle.night.proofs.read_list.Given as goal

abbrev pub invariant-loop : goal.invariant-loop
invariant-loop g l = record {
  size : length l.text ≡ longest_list + 1;
  within : l.reading.bytes ≤ length l.text;
  judged : Judged l.text l.reading.bytes l.reading.judge;
}
