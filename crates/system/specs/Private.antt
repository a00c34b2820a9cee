-- Only private contracts cite this: a place in a file, and what was read before a read failed.
use Rattle.std.specs.Prelude.{ℕ, ℤ, pos, negsuc, Option, Some, None, List, take}
use Rattle.std.specs.Io.KnownBytes.{Consumes}
use Rattle.io.specs.Counts.{IsPrefixLen}

-- the place that the system tells; an answer below 0 is none
abbrev pub place_of : ℤ → Option ℕ
place_of (pos place) = Some place
place_of (negsuc k) = None

-- the bytes that were read stand at the start of the slice, however many they are
abbrev pub HasRead : Option (List ℕ) → Option (List ℕ) → List ℕ → Type 0
HasRead old new slice = (n : ℕ) × IsPrefixLen n slice × Consumes old new (take n slice)
