-- Only private contracts cite this: the scan that shows a batch of patterns, the width to a pattern, and what is read off a run on it.
use Rattle.std.specs.Prelude.{Ok}
use Rattle.std.specs.Prelude.{ℕ, ◌+◌, ◌*◌, ◌/◌, ◌%◌, ◌≤◌, ◌<◌, ◌≡◌, Bool, List, leb, length, get_or}
use Rattle.limits.specs.Limits.{reach, width, patterns, byte_bits}
use Rattle.theory.specs.Lists.{bit, tab}
use Rattle.theory.specs.Sets.{has}
use Rattle.windows.specs.Columns.{position_in}
use Rattle.recipes.specs.Judge.{recipe_checked}
use Rattle.rows.specs.Private.{piece}

-- the samples that show the patterns of a byte of the truth table
abbrev pub byte_samples : ℕ
byte_samples = byte_bits * width

-- a batch is so many bytes of the truth table that its scan fills one piece of a run
abbrev pub batch_bytes : ℕ
batch_bytes = piece / byte_samples

-- and its scan has so many samples
abbrev pub batch_samples : ℕ
batch_samples = batch_bytes * byte_samples

-- the sample that shows column k of the pattern v: 1 where the pattern has the position that stands there
abbrev pub sample_of : ℕ → ℕ → ℕ
sample_of v k = bit (has v (position_in k))

-- sample j of those that show the patterns from the first on, as many to a pattern as the window has columns
abbrev pub sample_at : ℕ → ℕ → ℕ
sample_at first j = sample_of (first + j / width) (j % width)

-- the first n of them
abbrev pub pattern_scan : ℕ → ℕ → List ℕ
pattern_scan first n = tab n (sample_at first)

-- whether a run gave 1 or more in the middle of the v-th pattern of its scan
unfoldable pub middle_of : List ℕ → ℕ → Bool
middle_of out v = leb 1 (get_or out (v * width + reach) 0)

-- a batch to fill: an accepted recipe, some bytes of the truth table and no more than a batch's, and a scan and a run of as many samples as
-- show their patterns
pub record Batch (r scan out bytes : List ℕ) (first : ℕ) : Type 0 where
  pub fine : recipe_checked r ≡ Ok tt
  pub nonempty : 0 < length bytes
  pub few : length bytes ≤ batch_bytes
  pub scanned : length scan ≡ length bytes * byte_samples
  pub lent : length out ≡ length scan
  pub tabled : first + byte_bits * length bytes ≤ patterns
