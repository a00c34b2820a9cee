-- Truth tables: bit v mod 8 of byte v / 8 is the value on pattern v.
use Rattle.std.specs.Prelude.{Bool, not, ◌&&◌, List, ℕ, ◌+◌, ◌*◌, ◌/◌, ◌%◌, get_or}
use Rattle.limits.specs.Limits.{byte_bits}
use Rattle.theory.specs.Lists.{any, from, tab}
use Rattle.theory.specs.Sets.{has, gather, with_position}

-- the table's value on the pattern v
unfoldable pub table_at : List ℕ → ℕ → Bool
table_at tb v = has (get_or tb (v / byte_bits) 0) (v % byte_bits)

-- the table of f in n bytes
unfoldable pub table_of : ℕ → (ℕ → Bool) → List ℕ
table_of n f = tab n (λ j. gather byte_bits (λ i. f (byte_bits * j + i)))

-- f is 1 on v, and one more position turns it to 0
unfoldable pub slips : ℕ → (ℕ → Bool) → ℕ → Bool
slips w f v = f v && any (λ i. not (f (with_position v i))) (from 0 w)
