-- A byte gathered from its highest bit down: what the loop over its bits keeps.
-- Assumes nothing.
use Rattle.std.proofs.Common.{ℕ, ◌+◌, ◌-◌, ◌*◌, ◌^◌, ◌≤◌, ◌<◌, arith, ◌≡◌, refl, sym, ap, ap₂, ◌∙◌, Bool, false, true, List, [], ◌∷◌, ◌++◌, length, take, get_or}
use Rattle.std.proofs.lemmas.List.{take_all}
use Rattle.std.specs.Int.{from_bool}
use Rattle.limits.specs.Limits.{byte_bits}
use Rattle.theory.specs.Lists.{bit}
use Rattle.theory.specs.Sets.{gather}
use Rattle.bits.proofs.Backwards.{back_length, back_front, back_item}
use Rattle.theory.proofs.Gathers.{gather_none, gather_more, gather_all, gather_byte}

-- the bits left are the first ones, and byte is the others gathered
pub record Gathered (bits left : List Bool) (byte : ℕ) : Type 0 where
  pub few : length left ≤ byte_bits
  pub first : left ≡ take (length left) bits
  pub others : byte ≡ gather (byte_bits - length left) (λ k. get_or bits (length left + k) false)

pub gathered_none : (bits : List Bool) → length bits ≡ byte_bits → Gathered bits bits 0
gathered_none bits e =
    let none : byte_bits - length bits ≡ 0 = omega (arith, e) in
    record {
      few = omega (arith, e);
      first = sym (take_all (length bits) bits (omega arith));
      others = sym (ap (λ (n : ℕ). gather n (λ k. get_or bits (length bits + k) false)) none ∙ gather_none _);
    }

pub gathered_more : (bits left rest : List Bool) (x : Bool) (byte : ℕ) → Gathered bits left byte → left ≡ rest ++ (x ∷ [])
    → Gathered bits rest (byte * 2 + bit x)
gathered_more bits left rest x byte g e =
    let n = length rest in
    let long = back_length false bits left rest x g.first e in
    let few : length left ≤ byte_bits = g.few in
    let back : length left - 1 ≡ n = omega (arith, long) in
    let p : ℕ → Bool = λ k. get_or bits k false in
    let here : x ≡ p (length left - 1) = back_item false bits left rest x g.first e ∙ ap p (sym back) in
    record {
      few = omega (arith, long, few);
      first = back_front false bits left rest x g.first e;
      others = ap₂ (λ (b : ℕ) (y : Bool). b * 2 + bit y) g.others here
          ∙ sym (gather_more byte_bits (length left) p (omega (arith, long)) g.few)
          ∙ ap (λ (m : ℕ). gather (byte_bits - m) (λ k. p (m + k))) back;
    }

pub gathered_fits : (bits left : List Bool) (byte : ℕ) → Gathered bits left byte → byte < 2 ^ byte_bits
gathered_fits bits left byte g = rw g.others (gather_byte (length left) _)

pub gathered_all : (bits left : List Bool) (byte : ℕ) → Gathered bits left byte → length left ≡ 0 → byte ≡ gather byte_bits (λ k. get_or bits k false)
gathered_all bits left byte g e = g.others ∙ gather_all byte_bits (length left) (λ k. get_or bits k false) e

-- a truth value's number, as the library makes it
pub from_bool_is : (x : Bool) → from_bool x ≡ bit x
unfolding bit
from_bool_is true = refl
from_bool_is false = refl
