use Rattle.std.proofs.Common.{◌≡◌, ◌+◌, ◌*◌, ◌<◌, ◌≤◌, List, ℕ, length}
use Rattle.std.specs.Io.KnownBytes.{Consumes}
use Rattle.limits.specs.Limits.{longest_file}
use Rattle.system.proofs.input.count_on.Given as goal

abbrev pub invariant-loop : goal.invariant-loop
invariant-loop g l = record {
  more : longest_file < l.length;
  few : l.length ≤ longest_file + 1 + l.counter * 65536;
  counted : (bytes : List ℕ) × Consumes (g.R.Read.remaining l.fn.reader) (g.R.Read.remaining l.reader) bytes × (l.length ≡ longest_file + 1 + length bytes);
}
