-- A number gathered from its highest position down, as a loop makes it.
-- Assumes nothing.
use mathlib.Core.Path.{◌≡◌, refl, sym, ap, ap₂, ◌∙◌, fun_ext}
use mathlib.Core.Bool.{Bool}
use Prim.Native.Nat.{ℕ, zero, suc, ◌+◌, ◌-◌, ◌*◌, ◌^◌, ◌≤◌, ◌<◌}
use native.Mathlib.Nat.{add-zero, zero-add, add-suc, suc-add, lt_of_lt_of_le}
use native.Mathlib.Omega.{arith}
use lib.Pow.{pow_mono}
use Rattle.limits.specs.Limits.{byte_bits}
use Rattle.theory.specs.Lists.{bit}
use Rattle.theory.specs.Sets.{gather}
use Rattle.theory.proofs.Sets.{gather-lt}

pub gather_none : (p : ℕ → Bool) → gather 0 p ≡ 0
unfolding gather
gather_none p = refl

-- the positions from i on: one more below them
pub gather_more : (w i : ℕ) (p : ℕ → Bool) → 0 < i → i ≤ w
    → gather (w - (i - 1)) (λ k. p ((i - 1) + k)) ≡ gather (w - i) (λ k. p (i + k)) * 2 + bit (p (i - 1))
unfolding gather
gather_more w zero p l h = absurd (omega arith)
gather_more w (suc i) p l h =
    let e : suc i - 1 ≡ i = omega arith in
    let q : w - i ≡ suc (w - suc i) = omega arith in
    rw (e, q)
    (ap₂ (λ (g : ℕ → Bool) (b : Bool). gather (w - suc i) g * 2 + bit b)
    (fun_ext (λ k. ap p (add-suc i k ∙ sym (suc-add i k))))
    (ap p (add-zero i)))

-- all of them
pub gather_all : (w i : ℕ) (p : ℕ → Bool) → i ≡ 0 → gather (w - i) (λ k. p (i + k)) ≡ gather w p
gather_all w i p e =
    let z : w - 0 ≡ w = omega arith in
    rw (e, z) (ap (gather w) (fun_ext (λ k. ap p (zero-add k))))

-- the highest bits of a byte are a byte
pub gather_byte : (i : ℕ) (p : ℕ → Bool) → gather (byte_bits - i) p < 2 ^ byte_bits
gather_byte i p = lt_of_lt_of_le (gather-lt (byte_bits - i) p) (pow_mono {j = byte_bits} (omega arith))
