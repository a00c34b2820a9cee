-- Sets: a number is the set of the positions whose bits it has. Everything is over the width w, the number of positions.
use Rattle.std.specs.Prelude.{Bool, ◌&&◌, List, ℕ, zero, suc, ◌+◌, ◌*◌, ◌/◌, ◌%◌, ◌^◌, eqb, ltb}
use Rattle.std.specs.Int.Bits.{bit_and, bit_or}
use Rattle.theory.specs.Lists.{keep, from, bit}

-- position i is in v: the lowest bit of v halved i times
unfoldable pub has : ℕ → ℕ → Bool
has v zero = eqb (v % 2) 1
has v (suc i) = has (v / 2) i

-- the set of the positions below w that pass
unfoldable pub gather : ℕ → (ℕ → Bool) → ℕ
gather zero p = 0
gather (suc w) p = gather w (λ i. p (suc i)) * 2 + bit (p zero)

-- every position of a is one of b: b contains a
unfoldable pub within : ℕ → ℕ → Bool
within a b = eqb (bit_and a b) a

-- the positions of v below w, ascending
unfoldable pub positions : ℕ → ℕ → List ℕ
positions w v = keep (has v) (from 0 w)

-- a set of positions below w, with some: 1 to 2 ^ w - 1
unfoldable pub is_set : ℕ → ℕ → Bool
is_set w v = ltb 0 v && ltb v (2 ^ w)

-- v with the position i too
unfoldable pub with_position : ℕ → ℕ → ℕ
with_position v i = bit_or v (2 ^ i)
