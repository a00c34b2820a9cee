-- The judge, state by state: when line 251 has begun, and that a piece is gone through byte by byte.
-- Assumes nothing.
use Prim.Native.Nat.{ℕ, ◌+◌, ◌≤◌}
use native.Mathlib.Omega.{arith}
use mathlib.Core.Path.{◌≡◌, refl}
use mathlib.Core.Bool.{Bool, true, false, ◌&&◌, ◌||◌}
use mathlib.Core.List.{List, [], ◌∷◌}
use mathlib.Core.Logic.{◌⊎◌, inl, inr}
use lib.Dec.{eqb, ltb}
use borrow.Author.Tests.{ltb-true, ltb-false, lt-ltb, eqb-true, eq-eqb}
use Rattle.limits.specs.Limits.{most_names}
use Rattle.theory.proofs.Tests.{which, same_test, or_cases, or_left, or_right, and_both, and_left}
use Rattle.lists.specs.declared.Judge.{Judge}
use Rattle.lists.specs.Judge.{ended, closed, is_over, stepped, judged}

-- one line more is over the most
next_over : (n : ℕ) → ltb most_names (n + 1) ≡ (ltb most_names n || (eqb n most_names && true))
next_over n = same_test to back
  where
    to : ltb most_names (n + 1) ≡ true → (ltb most_names n || (eqb n most_names && true)) ≡ true
    to e = go (which (ltb most_names n))
      where
        go : (ltb most_names n ≡ true) ⊎ (ltb most_names n ≡ false) → (ltb most_names n || (eqb n most_names && true)) ≡ true
        go (inl q) = or_left (eqb n most_names && true) q
        go (inr q) =
            let last : n ≡ most_names = omega (arith, ltb-true most_names (n + 1) e, ltb-false most_names n q) in
            or_right (ltb most_names n) (and_both (eq-eqb n most_names last) refl)

    back : (ltb most_names n || (eqb n most_names && true)) ≡ true → ltb most_names (n + 1) ≡ true
    back e = go (or_cases (ltb most_names n) (eqb n most_names && true) e)
      where
        go : (ltb most_names n ≡ true) ⊎ ((eqb n most_names && true) ≡ true) → ltb most_names (n + 1) ≡ true
        go (inl q) = lt-ltb most_names (n + 1) (omega (arith, ltb-true most_names n q))
        go (inr q) = lt-ltb most_names (n + 1) (omega (arith, eqb-true n most_names (and_left (eqb n most_names) true q)))

none_over : (n : ℕ) → ltb most_names n ≡ (ltb most_names n || (eqb n most_names && false))
none_over n = go (ltb most_names n) (eqb n most_names)
  where
    go : (a b : Bool) → a ≡ (a || (b && false))
    go true b = refl
    go false true = refl
    go false false = refl

-- line 251 has begun where 251 lines have ended, or 250 and the line at hand has a byte
pub over_by : (j : Judge) → is_over j ≡ (ltb most_names j.lines || (eqb j.lines most_names && ltb 0 j.bytes))
unfolding is_over closed ended
over_by j = go (which (ltb 0 j.bytes))
  where
    go : (ltb 0 j.bytes ≡ true) ⊎ (ltb 0 j.bytes ≡ false)
        → is_over j ≡ (ltb most_names j.lines || (eqb j.lines most_names && ltb 0 j.bytes))
    go (inl e) = rw e (next_over j.lines)
    go (inr e) = rw e (none_over j.lines)

-- before that, at most 250 lines have ended
pub not_over : (j : Judge) → is_over j ≡ false → j.lines ≤ most_names
unfolding is_over closed ended
not_over j h = go (which (ltb 0 j.bytes))
  where
    go : (ltb 0 j.bytes ≡ true) ⊎ (ltb 0 j.bytes ≡ false) → j.lines ≤ most_names
    go (inl e) = omega (arith, ltb-false most_names (j.lines + 1) (rw e at h))
    go (inr e) = ltb-false most_names j.lines (rw e at h)

-- once line 251 has begun, no byte changes anything
pub over_same : (j : Judge) (piece : List ℕ) → is_over j ≡ true → judged j piece ≡ j
unfolding stepped
over_same j [] e = refl
over_same j (b ∷ piece) e = rw e (over_same j piece e)
