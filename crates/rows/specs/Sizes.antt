-- The sizes that a change of a row goes by; src/lib.rt has the same numbers.
use Rattle.std.specs.Prelude.{ℕ, ◌+◌, ◌*◌}
use Rattle.limits.specs.Limits.{reach}

-- the room of an opening on either side of a row: no set spans more offsets
abbrev pub opening : ℕ
opening = 2 * reach

-- the longest row: of a piece of 2,048 samples, with the reach on either side
abbrev pub longest_row : ℕ
longest_row = 2048 + 2 * reach
