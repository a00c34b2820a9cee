-- Positions of a number: as a shift reads them, with one taken away, the lowest and the highest, and how many they are.
-- Assumes nothing.
use mathlib.Core.Path.{◌≡◌, refl, sym, ap, ◌∙◌}
use mathlib.Core.Bool.{Bool, true, false, not, ◌&&◌}
use mathlib.Core.Logic.{◌⊎◌, inl, inr}
use Prim.Native.Nat.{ℕ, zero, suc, ◌+◌, ◌-◌, ◌/◌, ◌%◌, ◌^◌, ◌≤◌, ◌<◌, zero-le}
use native.Mathlib.Nat.{pow-suc, div-one, div-div-eq-div-mul, mul_comm}
use native.Mathlib.Omega.{arith}
use lib.Arith.{lt-one}
use lib.Count.{ones, ones_step}
use lib.Dec.{eqb, eqb-zero-suc, eqb-suc-zero, eqb-suc-suc}
use lib.ListN.{length}
use borrow.Author.Tests.{eqb-true, ne_eqb, not-true}
use Rattle.theory.specs.Lists.{any, keep, from}
use Rattle.theory.specs.Sets.{has, positions}
use Rattle.theory.proofs.Tests.{which, not_both, and_left, and_right, and_both, and_true, and_false}
use Rattle.theory.proofs.Lists.{put, any_at, any_by, from_mem, from_at}
use Rattle.theory.proofs.Sets.{within_by, within_le, zero_or_one, mod-two}

-- half of v, read at i
half : (v i : ℕ) → v / 2 ^ suc i ≡ v / 2 / 2 ^ i
half v i = ap (λ (n : ℕ). v / n) (pow-suc 2 i ∙ mul_comm (2 ^ i) 2) ∙ sym (div-div-eq-div-mul v 2 (2 ^ i))

-- position i of v, as a shift reads it
pub has_shift : (v i : ℕ) → has v i ≡ eqb (v / 2 ^ i % 2) 1
unfolding has
has_shift v zero = ap (λ (n : ℕ). eqb (n % 2) 1) (sym (div-one v))
has_shift v (suc i) = has_shift (v / 2) i ∙ ap (λ (n : ℕ). eqb (n % 2) 1) (sym (half v i))

-- ---- one position less

-- a position that v has can be taken away
pub has_le : (v i : ℕ) → has v i ≡ true → 2 ^ i ≤ v
unfolding has
has_le v zero e = omega (arith, eqb-true (v % 2) 1 e)
has_le v (suc i) e = omega (arith, has_le (v / 2) i e, pow-suc 2 i)

-- the others stay
pub has_less : (v i j : ℕ) → has v i ≡ true → has (v - 2 ^ i) j ≡ (has v j && not (eqb j i))
unfolding has
has_less v zero zero e = ne_eqb ((v - 1) % 2) 1 (λ z. omega (arith, eqb-true (v % 2) 1 e)) ∙ sym (and_false (eqb (v % 2) 1))
has_less v zero (suc j) e =
    let z : (v - 1) / 2 ≡ v / 2 = omega (arith, eqb-true (v % 2) 1 e) in
    ap (λ (n : ℕ). has n j) z ∙ sym (ap (λ (b : Bool). has (v / 2) j && not b) (eqb-suc-zero j) ∙ and_true (has (v / 2) j))
has_less v (suc i) zero e =
    let z : (v - 2 ^ suc i) % 2 ≡ v % 2 = omega (arith, has_le (v / 2) i e, pow-suc 2 i) in
    ap (λ (n : ℕ). eqb n 1) z ∙ sym (ap (λ (b : Bool). eqb (v % 2) 1 && not b) (eqb-zero-suc i) ∙ and_true (eqb (v % 2) 1))
has_less v (suc i) (suc j) e =
    let z : (v - 2 ^ suc i) / 2 ≡ v / 2 - 2 ^ i = omega (arith, has_le (v / 2) i e, pow-suc 2 i) in
    ap (λ (n : ℕ). has n j) z ∙ has_less (v / 2) i j e ∙ ap (λ (b : Bool). has (v / 2) j && not b) (sym (eqb-suc-suc j i))

-- a smaller number lacks a position
pub lacks_one : (w u v : ℕ) → u < v → v < 2 ^ w → (i : ℕ) × (i < w) × (has v i ≡ true) × (has u i ≡ false)
lacks_one w u v l h = go (which (any lacks (from 0 w)))
  where
    lacks : ℕ → Bool
    lacks i = has v i && not (has u i)

    go : (any lacks (from 0 w) ≡ true) ⊎ (any lacks (from 0 w) ≡ false) → (i : ℕ) × (i < w) × (has v i ≡ true) × (has u i ≡ false)
    go (inl z) =
        let s = any_at lacks (from 0 w) z in
        (s.0, omega (arith, from_at 0 w s.1), and_left (has v s.0) _ s.2, not-true _ (and_right (has v s.0) _ s.2))
    go (inr z) = absurd (omega (arith, within_le (within_by w v u h (λ i k p. kept i k p (which (has u i))))))
      where
        kept : (i : ℕ) → i < w → has v i ≡ true → (has u i ≡ true) ⊎ (has u i ≡ false) → has u i ≡ true
        kept i k p (inl q) = q
        kept i k p (inr q) = absurd (not_both (any_by lacks {x = i} (from_mem 0 w zero-le (omega arith)) (and_both p (rw q))) z)

-- ---- the lowest and the highest position of a number

-- ---- how many positions a number has

-- the positions from a + 1 on are those from a on of half the number
shift_keep : (v a n : ℕ) → length (keep (has v) (from (suc a) n)) ≡ length (keep (has (v / 2)) (from a n))
unfolding keep from has
shift_keep v a zero = refl
shift_keep v a (suc n) = go (has (v / 2) a) (shift_keep v (suc a) n)
  where
    go : (p : Bool) → length (keep (has v) (from (suc (suc a)) n)) ≡ length (keep (has (v / 2)) (from (suc a) n))
        → length (put p (suc a) (keep (has v) (from (suc (suc a)) n))) ≡ length (put p a (keep (has (v / 2)) (from (suc a) n)))
    go true ih = ap suc ih
    go false ih = ih

pub positions_ones : (w v : ℕ) → v < 2 ^ w → length (positions w v) ≡ ones v
unfolding positions keep from has ones
positions_ones zero v h = rw (lt-one h)
positions_ones (suc w) v h =
    go (zero_or_one (v % 2) (mod-two v)) (shift_keep v 0 w ∙ positions_ones w (v / 2) (omega arith)) ∙ sym (ones_step v)
  where
    go : (v % 2 ≡ 0) ⊎ (v % 2 ≡ 1) → length (keep (has v) (from 1 w)) ≡ ones (v / 2)
        → length (put (eqb (v % 2) 1) 0 (keep (has v) (from 1 w))) ≡ v % 2 + ones (v / 2)
    go (inl e) ih = rw e (omega arith)
    go (inr e) ih = rw e (omega arith)
