-- Numbers as bytes, low byte first.
use Rattle.std.specs.Prelude.{ℕ, ◌+◌, ◌*◌, ◌/◌, ◌%◌, List, [], ◌∷◌, ◌++◌, get_or}
use Rattle.limits.specs.Limits.{word_bytes}
use Rattle.theory.specs.Lists.{tab}

-- ---- what is written

-- a number as two bytes, low byte first
unfoldable pub two_bytes : ℕ → List ℕ
two_bytes x = x % 256 ∷ x / 256 ∷ []

-- a number as four bytes, low byte first
unfoldable pub four_bytes : ℕ → List ℕ
four_bytes x = two_bytes (x % 65536) ++ two_bytes (x / 65536)

-- numbers one after another, two bytes each
unfoldable pub in_words : List ℕ → List ℕ
in_words [] = []
in_words (x ∷ xs) = two_bytes x ++ in_words xs

-- ---- what is read

-- the number that two bytes from a place on are
unfoldable pub word_at : List ℕ → ℕ → ℕ
word_at f at = get_or f at 0 + 256 * get_or f (at + 1) 0

-- the number that four bytes from a place on are
unfoldable pub long_at : List ℕ → ℕ → ℕ
long_at f at = word_at f at + 65536 * word_at f (at + word_bytes)

-- the n numbers, two bytes each, from a place on
unfoldable pub words_from : List ℕ → ℕ → ℕ → List ℕ
words_from f at n = tab n (λ i. word_at f (at + word_bytes * i))
