-- Laws of the sets of positions, over the width.
-- Assumes nothing.
use mathlib.Core.Path.{◌≡◌, refl, sym, ap, ◌∙◌}
use mathlib.Core.Bool.{Bool, true, false, ◌&&◌, ◌||◌}
use mathlib.Core.List.{Memᴰ}
use mathlib.Core.Logic.{◌⊎◌, inl, inr}
use Prim.Native.Nat.{ℕ, zero, suc, ◌/◌, ◌%◌, ◌^◌, ◌≤◌, ◌<◌, zero-le, suc-le-suc, min, max}
use native.Mathlib.Nat.{le_of_suc-le-suc, pow-suc, lt_of_le_of_lt, not-suc-le-zero}
use native.Mathlib.Omega.{arith}
use lib.Dec.{eqb, eqb-zero-suc, eqb-suc-zero, eqb-suc-suc}
use lib.Pow.{pow-lt}
use lib.Arith.{digits_div, digits_mod, digits_lt, lt-one}
use lib.Bits.{bit_and, and_step, and_le_l, and_le_r, bit_or, or_step, or_lt}
use borrow.Author.Tests.{eqb-true, eqb-false, eq-eqb}
use Rattle.theory.specs.Lists.{all, any, from, bit}
use Rattle.theory.specs.Sets.{has, gather, within, positions, with_position}
use Rattle.theory.proofs.Tests.{same_test, and_right, which, not_both}
use Rattle.theory.proofs.Lists.{keep_mem, keep_at, from_mem, from_at, all_at, all_by, any_at, any_by, bit_lt}

-- ---- gather

bit_is : (b : Bool) → eqb (bit b) 1 ≡ b
unfolding bit
bit_is true = refl
bit_is false = refl

pub gather-lt : (w : ℕ) (p : ℕ → Bool) → gather w p < 2 ^ w
unfolding gather
gather-lt zero p = omega arith
gather-lt (suc w) p = rw (pow-suc 2 w) (digits_lt (gather-lt w (λ i. p (suc i))) (bit_lt (p zero)))

pub has_gather : (w : ℕ) (p : ℕ → Bool) (i : ℕ) → i < w → has (gather w p) i ≡ p i
unfolding has gather
has_gather zero p i h = absurd (not-suc-le-zero h)
has_gather (suc w) p zero h = rw (digits_mod (gather w (λ i. p (suc i))) (bit_lt (p zero))) (bit_is (p zero))
has_gather (suc w) p (suc i) h =
    rw (digits_div (gather w (λ i. p (suc i))) (bit_lt (p zero))) (has_gather w (λ i. p (suc i)) i (le_of_suc-le-suc h))

-- ---- two numbers with the same positions

half_lt : {a : ℕ} (w : ℕ) → a < 2 ^ suc w → a / 2 < 2 ^ w
half_lt w h = omega arith

low_same : (a b : ℕ) → a < 2 → b < 2 → eqb a 1 ≡ eqb b 1 → a ≡ b
low_same a b h k e = go (which (eqb a 1)) (which (eqb b 1))
  where
    go : (eqb a 1 ≡ true) ⊎ (eqb a 1 ≡ false) → (eqb b 1 ≡ true) ⊎ (eqb b 1 ≡ false) → a ≡ b
    go (inl p) (inl q) = eqb-true a 1 p ∙ sym (eqb-true b 1 q)
    go (inl p) (inr q) = absurd (not_both (sym e ∙ p) q)
    go (inr p) (inl q) = absurd (not_both (e ∙ q) p)
    go (inr p) (inr q) =
        let f : a ≡ 1 → ⊥ = eqb-false a 1 p in
        let g : b ≡ 1 → ⊥ = eqb-false b 1 q in
        omega arith

pub same_bits : (w a b : ℕ) → a < 2 ^ w → b < 2 ^ w → ((i : ℕ) → i < w → has a i ≡ has b i) → a ≡ b
unfolding has
same_bits zero a b h k f = omega arith
same_bits (suc w) a b h k f =
    let q : a / 2 ≡ b / 2 = same_bits w (a / 2) (b / 2) (half_lt w h) (half_lt w k) (λ i l. f (suc i) (suc-le-suc l)) in
    let r : a % 2 ≡ b % 2 = low_same (a % 2) (b % 2) (omega arith) (omega arith) (f zero (omega arith)) in
    omega arith

pub gather_cong : (w : ℕ) (p q : ℕ → Bool) → ((i : ℕ) → i < w → p i ≡ q i) → gather w p ≡ gather w q
gather_cong w p q h =
    same_bits w (gather w p) (gather w q) (gather-lt w p) (gather-lt w q) (λ i l. has_gather w p i l ∙ h i l ∙ sym (has_gather w q i l))

-- ---- within

pub zero_or_one : (a : ℕ) → a < 2 → (a ≡ 0) ⊎ (a ≡ 1)
zero_or_one zero h = inl refl
zero_or_one (suc zero) h = inr refl
zero_or_one (suc (suc a)) h = absurd (omega arith)

min_is : (a b : ℕ) → a < 2 → b < 2 → eqb (min a b) 1 ≡ (eqb a 1 && eqb b 1)
min_is a b h k = go (zero_or_one a h) (zero_or_one b k)
  where
    go : (a ≡ 0) ⊎ (a ≡ 1) → (b ≡ 0) ⊎ (b ≡ 1) → eqb (min a b) 1 ≡ (eqb a 1 && eqb b 1)
    go (inl e) (inl f) = rw (e, f)
    go (inl e) (inr f) = rw (e, f)
    go (inr e) (inl f) = rw (e, f)
    go (inr e) (inr f) = rw (e, f)

pub mod-two : (n : ℕ) → n % 2 < 2
mod-two n = omega arith

min_lt : (a b : ℕ) → a < 2 → min a b < 2
min_lt a b h = omega arith

pub has_and : (a b i : ℕ) → has (bit_and a b) i ≡ (has a i && has b i)
unfolding has
has_and a b zero =
    rw (and_step a b, digits_mod (bit_and (a / 2) (b / 2)) (min_lt (a % 2) (b % 2) (mod-two a)))
    (min_is (a % 2) (b % 2) (mod-two a) (mod-two b))
has_and a b (suc i) =
    rw (and_step a b, digits_div (bit_and (a / 2) (b / 2)) (min_lt (a % 2) (b % 2) (mod-two a))) (has_and (a / 2) (b / 2) i)

pub within_has : (a b : ℕ) → within a b ≡ true → (i : ℕ) → has a i ≡ true → has b i ≡ true
unfolding within
within_has a b e i h = and_right (has a i) _ (sym (has_and a b i) ∙ ap (λ (n : ℕ). has n i) (eqb-true _ _ e) ∙ h)

pub within_by : (w a b : ℕ) → a < 2 ^ w → ((i : ℕ) → i < w → has a i ≡ true → has b i ≡ true) → within a b ≡ true
unfolding within
within_by w a b h f =
    eq-eqb _ _ (same_bits w (bit_and a b) a (lt_of_le_of_lt (and_le_l a b) h) h (λ i l. has_and a b i ∙ absorb (has a i) (has b i) (f i l)))
  where
    absorb : (x y : Bool) → (x ≡ true → y ≡ true) → (x && y) ≡ x
    absorb true y g = g refl
    absorb false y g = refl

pub within_le : {a b : ℕ} → within a b ≡ true → a ≤ b
unfolding within
within_le {a} {b} e = let q : bit_and a b ≡ a = eqb-true _ _ e in omega (arith, and_le_r a b)

-- a number has no position at or past its width
pub has_lt : (w v i : ℕ) → v < 2 ^ w → has v i ≡ true → i < w
unfolding has
has_lt zero v zero h e = let z : v ≡ 0 = lt-one h in absurd (not_both e (rw z))
has_lt zero v (suc i) h e = let z : v ≡ 0 = lt-one h in absurd (not-suc-le-zero (has_lt zero (v / 2) i (omega arith) e))
has_lt (suc w) v zero h e = omega arith
has_lt (suc w) v (suc i) h e = suc-le-suc (has_lt w (v / 2) i (half_lt w h) e)

-- every number lies in some width
below : (v : ℕ) → v < 2 ^ v
below zero = omega arith
below (suc v) = omega (arith, below v)

pub within_refl : (a : ℕ) → within a a ≡ true
within_refl a = within_by a a a (below a) (λ i l h. h)

pub within_trans : (a b c : ℕ) → within a b ≡ true → within b c ≡ true → within a c ≡ true
within_trans a b c e f = within_by a a c (below a) (λ i l h. within_has b c f i (within_has a b e i h))

-- ---- positions

pub positions-at : (w v : ℕ) {i : ℕ} → Memᴰ i (positions w v) → (i < w) × (has v i ≡ true)
unfolding positions
positions-at w v m = let k = keep_at (has v) (from 0 w) m in (omega (arith, from_at 0 w k.0), k.1)

pub positions_mem : (w v : ℕ) {i : ℕ} → i < w → has v i ≡ true → Memᴰ i (positions w v)
unfolding positions
positions_mem w v l h = keep_mem (has v) (from_mem 0 w zero-le (omega arith)) h

-- a gathered pattern contains a set where each of its positions passes
pub within_gather : (w a : ℕ) (p : ℕ → Bool) → a < 2 ^ w → within a (gather w p) ≡ all p (positions w a)
within_gather w a p h =
    same_test
    (λ e. all_by p (positions w a) (λ i m. sym (has_gather w p i (positions-at w a m).0) ∙ within_has _ _ e i (positions-at w a m).1))
    (λ e. within_by w a (gather w p) h (λ i l k. has_gather w p i l ∙ all_at p e (positions_mem w a l k)))

pub has_zero : (i : ℕ) → has 0 i ≡ false
unfolding has
has_zero zero = refl
has_zero (suc i) = has_zero i

-- a number that is not 0 has a position
pub positions_nonempty : (w m : ℕ) → 0 < m → m < 2 ^ w → (i : ℕ) × Memᴰ i (positions w m)
positions_nonempty w m p h = go (which (any (has m) (from 0 w)))
  where
    go : (any (has m) (from 0 w) ≡ true) ⊎ (any (has m) (from 0 w) ≡ false) → (i : ℕ) × Memᴰ i (positions w m)
    go (inl e) = let s = any_at (has m) (from 0 w) e in (s.0, positions_mem w m (omega (arith, from_at 0 w s.1)) s.2)
    go (inr e) =
        let z : m ≡ 0 = same_bits w m 0 h (omega arith) (λ i l. none i l (which (has m i)) ∙ sym (has_zero i)) in
        absurd (omega arith)
      where
        none : (i : ℕ) → i < w → (has m i ≡ true) ⊎ (has m i ≡ false) → has m i ≡ false
        none i l (inl q) = absurd (not_both (any_by (has m) (from_mem 0 w zero-le (omega arith)) q) e)
        none i l (inr q) = q

-- ---- the bits of v with one more position

max_is : (a b : ℕ) → a < 2 → b < 2 → eqb (max a b) 1 ≡ (eqb a 1 || eqb b 1)
max_is a b h k = go (zero_or_one a h) (zero_or_one b k)
  where
    go : (a ≡ 0) ⊎ (a ≡ 1) → (b ≡ 0) ⊎ (b ≡ 1) → eqb (max a b) 1 ≡ (eqb a 1 || eqb b 1)
    go (inl e) (inl f) = rw (e, f)
    go (inl e) (inr f) = rw (e, f)
    go (inr e) (inl f) = rw (e, f)
    go (inr e) (inr f) = rw (e, f)

max_lt : (a b : ℕ) → a < 2 → b < 2 → max a b < 2
max_lt a b h k = omega arith

has_or : (a b i : ℕ) → has (bit_or a b) i ≡ (has a i || has b i)
unfolding has
has_or a b zero =
    rw (or_step a b, digits_mod (bit_or (a / 2) (b / 2)) (max_lt (a % 2) (b % 2) (mod-two a) (mod-two b)))
    (max_is (a % 2) (b % 2) (mod-two a) (mod-two b))
has_or a b (suc i) =
    rw (or_step a b, digits_div (bit_or (a / 2) (b / 2)) (max_lt (a % 2) (b % 2) (mod-two a) (mod-two b))) (has_or (a / 2) (b / 2) i)

has_pow : (i j : ℕ) → has (2 ^ i) j ≡ eqb j i
unfolding has
has_pow zero zero = refl
has_pow zero (suc j) = has_zero j ∙ sym (eqb-suc-zero j)
has_pow (suc i) zero = let z : 2 ^ suc i % 2 ≡ 0 = omega arith in rw z (sym (eqb-zero-suc i))
has_pow (suc i) (suc j) = let z : 2 ^ suc i / 2 ≡ 2 ^ i = omega arith in rw z (has_pow i j ∙ sym (eqb-suc-suc j i))

pub has_with : (v i j : ℕ) → has (with_position v i) j ≡ (has v j || eqb j i)
unfolding with_position
has_with v i j = has_or v (2 ^ i) j ∙ ap (λ (b : Bool). has v j || b) (has_pow i j)

pub with_lt : (w v i : ℕ) → v < 2 ^ w → i < w → with_position v i < 2 ^ w
unfolding with_position
with_lt w v i h l = or_lt w v (2 ^ i) h (pow-lt l)
