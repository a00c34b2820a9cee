-- The samples x1, x2, x3 in a pattern of the window: where they stand, and what the patterns of a table's byte have there.
-- Assumes nothing.
use mathlib.Core.Path.{◌≡◌, refl, sym, ap, ◌∙◌}
use mathlib.Core.Bool.{Bool, true, false, cond}
use Prim.Native.Nat.{ℕ, zero, suc, ◌+◌, ◌*◌, ◌/◌, ◌%◌, ◌<◌}
use native.Mathlib.Omega.{arith}
use lib.Dec.{eqb}
use lib.IntN.{sub_ℕ}
use Rattle.limits.specs.Limits.{byte_bits}
use Rattle.theory.specs.Lists.{bit}
use Rattle.theory.specs.Sets.{has, gather, within}
use Rattle.theory.specs.Signals.{window, wide, offset, spread}
use Rattle.theory.proofs.Tests.{same_test, not_both}
use Rattle.theory.proofs.Sets.{gather-lt, has_gather, gather_cong, same_bits, has_lt, within_by, within_has}
use Rattle.theory.proofs.Signals.{window_fair}
use Rattle.theory.proofs.Truth.{spread_at}
use Rattle.tables.proofs.Bytes.{byte_of}
use Rattle.presets.specs.Presets.{three, three_patterns, near_in, on_window}

-- the position of the offset -1; those of 0 and 1 follow it
abbrev nearest : ℕ
nearest = 3

stands : (i : ℕ) → i < three → offset window (nearest + i) ≡ sub_ℕ i 1
unfolding offset window
stands zero l = refl
stands (suc zero) l = refl
stands (suc (suc zero)) l = refl
stands (suc (suc (suc i))) l = absurd (omega arith)

has_near : (v i : ℕ) → i < three → has (near_in v) i ≡ has v (nearest + i)
unfolding near_in window wide
has_near v i l =
    has_gather three (λ i. spread window v (sub_ℕ i 1)) i l
    ∙ ap (spread window v) (sym (stands i l))
    ∙ spread_at window window_fair v (nearest + i) (omega arith)

pub near_lt : (v : ℕ) → near_in v < three_patterns
unfolding near_in
near_lt v = gather-lt three _

pub near_within : (u v : ℕ) → within u v ≡ true → within (near_in u) (near_in v) ≡ true
near_within u v q =
    within_by three (near_in u) (near_in v) (near_lt u)
    (λ i l h. has_near v i l ∙ within_has u v q (nearest + i) (sym (has_near u i l) ∙ h))

-- ---- a byte of the table

abbrev odd : ℕ → Bool
odd n = eqb n 1

-- a pattern of byte j has the lowest bits of j there
in-byte : (v j i : ℕ) → v / byte_bits ≡ j → i < three → has v (nearest + i) ≡ has (j % three_patterns) i
unfolding has
in-byte v j zero q l = let e : v / 2 / 2 / 2 % 2 ≡ j % three_patterns % 2 = omega arith in ap odd e
in-byte v j (suc zero) q l = let e : v / 2 / 2 / 2 / 2 % 2 ≡ j % three_patterns / 2 % 2 = omega arith in ap odd e
in-byte v j (suc (suc zero)) q l = let e : v / 2 / 2 / 2 / 2 / 2 % 2 ≡ j % three_patterns / 2 / 2 % 2 = omega arith in ap odd e
in-byte v j (suc (suc (suc i))) q l = absurd (omega arith)

near_byte : (j b : ℕ) → b < byte_bits → near_in (byte_bits * j + b) ≡ j % three_patterns
near_byte j b h =
    let v = byte_bits * j + b in
    let q : (byte_bits * j + b) / byte_bits ≡ j = omega arith in
    same_bits three (near_in v) (j % three_patterns) (near_lt v) (omega arith) (λ i l. has_near v i l ∙ in-byte v j i q l)

repeated : (b : Bool) → gather byte_bits (λ i. b) ≡ cond b 255 0
unfolding gather bit
repeated true = refl
repeated false = refl

-- byte j of the table is bit j mod 8 of the 8-bit one, eight times
pub table_byte : (t j : ℕ) → byte_of (on_window t) j ≡ cond (has t (j % three_patterns)) 255 0
unfolding on_window
table_byte t j =
    gather_cong byte_bits _ (λ i. has t (j % three_patterns)) (λ i l. ap (has t) (near_byte j i l)) ∙ repeated (has t (j % three_patterns))

-- ---- a pattern of the three samples, moved to where they stand

abbrev pub moved : ℕ → ℕ
moved u = three_patterns * u

pub near_moved : (u : ℕ) → u < three_patterns → near_in (moved u) ≡ u
near_moved u l = ap near_in (omega arith) ∙ near_byte u 0 (omega arith) ∙ omega arith

third : (i : ℕ) → nearest + i ≡ suc (suc (suc i))
third i = omega arith

has_moved : (u i : ℕ) → has (moved u) (suc (suc (suc i))) ≡ has u i
unfolding has
has_moved u i = let e : three_patterns * u / 2 / 2 / 2 ≡ u = omega arith in ap (λ (v : ℕ). has v i) e

-- it is within a pattern exactly where it is within what that has there
pub within_moved : (u v : ℕ) → u < three_patterns → within (moved u) v ≡ within u (near_in v)
unfolding has
within_moved u v small =
    same_test
    (λ e. within_by three u (near_in v) small (λ i l h. stood i l ∙ within_has (moved u) v e (suc (suc (suc i))) (has_moved u i ∙ h)))
    (λ e. within_by (nearest + three) (moved u) v (omega arith) (λ i l h. back e i h))
  where
    stood : (i : ℕ) → i < three → has (near_in v) i ≡ has v (suc (suc (suc i)))
    stood i l = has_near v i l ∙ ap (has v) (third i)

    -- it has nothing below that place
    below : (i m : ℕ) → m % 2 ≡ 0 → odd (m % 2) ≡ true → has v i ≡ true
    below i m e h = absurd (not_both h (ap odd e))

    back : within u (near_in v) ≡ true → (i : ℕ) → has (moved u) i ≡ true → has v i ≡ true
    back e zero h = below 0 (moved u) (omega arith) h
    back e (suc zero) h = below 1 (moved u / 2) (omega arith) h
    back e (suc (suc zero)) h = below 2 (moved u / 2 / 2) (omega arith) h
    back e (suc (suc (suc i))) h =
        let q = sym (has_moved u i) ∙ h in
        sym (stood i (has_lt three u i small q)) ∙ within_has u (near_in v) e i q
