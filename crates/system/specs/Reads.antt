-- What reading leaves in the slice that is lent to it, and what file was read.
use Rattle.std.specs.Prelude.{ℕ, ◌≤◌, min, ◌≡◌, List, length, take, Result, Ok, Err}
use Rattle.std.specs.Borrow.{Bor}
use Rattle.io.specs.Counts.{IsPrefixLen}
use Rattle.limits.specs.Limits.{longest_file}
use Rattle.system.specs.declared.long.TooLong.{TooLong}

-- one read more, behind the first bytes of a slice: then there are n, no fewer than there were and no more than the slice has, and
-- those that there were have not changed
pub record ReadsOn (bytes : ℕ) (old new : List ℕ) (n : ℕ) : Type 0 where
  pub enough : min bytes (length old) ≤ n
  pub within : n ≤ length old
  pub kept : take bytes new ≡ take bytes old

-- a file of n bytes was read: all of them lie at the start of the room, where it is not too long
abbrev pub Kept : ℕ → List ℕ → Type 0
Kept n room = n ≤ longest_file → IsPrefixLen n room

-- f is the file of n bytes that was read: those in the room, where it is not too long
abbrev pub IsRead : ℕ → List ℕ → List ℕ → Type 0
IsRead n room f = (length f ≡ n) × (n ≤ longest_file → f ≡ take n room)

-- f is the file: its bytes are these, or where it is too long, its length is this
abbrev pub IsFile : Result (Bor (List ℕ)) TooLong → List ℕ → Type 0
IsFile (Ok bytes) f = f ≡ bytes.now
IsFile (Err whole) f = length f ≡ whole.length
