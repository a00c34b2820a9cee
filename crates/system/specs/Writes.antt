-- What a write that fails leaves of a line.
use Rattle.std.specs.Prelude.{ℕ, ◌≤◌, List, Option, length, take}
use Rattle.std.specs.Io.KnownBytes.{Appends}

-- what a writer is known to hold has grown by the first bytes of the line, none or some or all of them
abbrev pub AppendsPart : Option (List ℕ) → Option (List ℕ) → List ℕ → Type 0
AppendsPart old new line = (n : ℕ) × (n ≤ length line) × Appends old new (take n line)
