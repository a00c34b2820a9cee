-- A line of numbers: all but the last with a space behind each, then the last and the line feed.
-- Assumes nothing.
use Prim.Native.Nat.{ℕ, zero, suc, ◌+◌, ◌<◌}
use native.Mathlib.Numerals.{add-one}
use native.Mathlib.Omega.{arith}
use mathlib.Core.Path.{◌≡◌, refl, sym, ap, ◌∙◌}
use mathlib.Core.List.{List, [], ◌∷◌, ◌++◌, map, append-nil, append_assoc}
use lib.ListN.{length, get_or, take}
use Rattle.lines.specs.Lines.{decimal, line_of}

-- numbers, a space behind each
unfoldable pub spaced : List ℕ → List ℕ
spaced [] = []
spaced (n ∷ numbers) = (decimal n ++ (32 ∷ [])) ++ spaced numbers

-- one number more
spaced_next : (numbers : List ℕ) (i : ℕ) → i < length numbers
    → spaced (take i numbers) ++ (decimal (get_or numbers i 0) ++ (32 ∷ [])) ≡ spaced (take (suc i) numbers)
unfolding spaced
spaced_next [] i h = absurd (omega arith)
spaced_next (n ∷ numbers) zero h = sym (append-nil (decimal n ++ (32 ∷ [])))
spaced_next (n ∷ numbers) (suc i) h =
    let field = decimal n ++ (32 ∷ []) in
    append_assoc field (spaced (take i numbers)) (decimal (get_or numbers i 0) ++ (32 ∷ []))
    ∙ ap (λ (l : List ℕ). field ++ l) (spaced_next numbers i (omega arith))

-- the same, as a loop counts
pub spaced_more : (numbers : List ℕ) (i : ℕ) → i < length numbers
    → spaced (take i numbers) ++ (decimal (get_or numbers i 0) ++ (32 ∷ [])) ≡ spaced (take (i + 1) numbers)
spaced_more numbers i h = rw (add-one) (spaced_next numbers i h)

-- the last number
pub spaced_last : (numbers : List ℕ) (i : ℕ) → suc i ≡ length numbers
    → spaced (take i numbers) ++ (decimal (get_or numbers i 0) ++ (10 ∷ [])) ≡ line_of (map decimal numbers)
unfolding spaced line_of
spaced_last [] i h = absurd (omega arith)
spaced_last (n ∷ []) zero h = refl
spaced_last (n ∷ []) (suc i) h = absurd (omega arith)
spaced_last (n ∷ m ∷ numbers) zero h = absurd (omega arith)
spaced_last (n ∷ m ∷ numbers) (suc i) h =
    let field = decimal n ++ (32 ∷ []) in
    let end = decimal (get_or (m ∷ numbers) i 0) ++ (10 ∷ []) in
    append_assoc field (spaced (take i (m ∷ numbers))) end
    ∙ ap (λ (l : List ℕ). field ++ l) (spaced_last (m ∷ numbers) i (omega arith))
    ∙ append_assoc (decimal n) (32 ∷ []) (line_of (map decimal (m ∷ numbers)))
