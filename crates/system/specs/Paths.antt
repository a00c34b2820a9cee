-- Names of files that can be handed on as a path. A name is its bytes.
use Rattle.std.specs.Prelude.{ℕ, Bool, ◌&&◌, not, List, nat_eq, nat_lt, length}
use Rattle.std.specs.List.{list_any}

-- none of these bytes is 0
abbrev pub no_zero : List ℕ → Bool
no_zero bytes = not (list_any (λ b. nat_eq b 0) bytes)

-- a path ends at its first 0, and it lies in an array of 4,096 bytes: so a name of fewer bytes, none of them 0, can be handed on whole
abbrev pub is_path : List ℕ → Bool
is_path name = nat_lt (length name) 4096 && no_zero name
