-- Only private contracts cite this: a text that is put into a slice.
use Rattle.std.specs.Prelude.{ℕ, ◌≤◌, ◌≡◌, List, ◌++◌, length, drop}

-- the text stands from the start on and all else is as it was; it ends at r, and the slice has room for it
pub record Put (text : List ℕ) (old new : List ℕ) (r : ℕ) : Type 0 where
  pub out : new ≡ text ++ drop (length text) old
  pub next : r ≡ length text
  pub room : r ≤ length old
