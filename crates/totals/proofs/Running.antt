-- The running totals are the totals of the outcomes so far: of any outcomes modulo 2^64, and exactly where these fit in 64 bits.
-- Assumes nothing.
use Rattle.std.proofs.Common.{◌≡◌, ℕ, ◌+◌, ◌%◌, ◌^◌, ◌<◌, List, [], ◌∷◌, sym, ap, ◌∙◌, add-zero, add_assoc, mod-lt, mod-eq_of_lt, zero-add, arith}
use mathlib.Core.List.{foldl}
use native.Mathlib.Nat.{mod-add-mod}
use Rattle.totals.specs.declared.Outcome.{Outcome}
use Rattle.totals.specs.declared.Totals.{Totals}
use Rattle.totals.specs.Totals.{adds, nothing, added, total, totals_of}
use Rattle.totals.specs.Nights.{running}
use Rattle.totals.proofs.Fields.{Field, at, at_each, same_fields}

-- what the outcomes add up to in a field
pub totals_at : (outcomes : List Outcome) (field : Field) → at field (totals_of outcomes) ≡ total (λ o. at field (adds o)) outcomes
unfolding totals_of
totals_at outcomes = at_each (λ get. total (λ o. get (adds o)) outcomes)

-- from totals that fit on
-- one outcome more
added-at : (field : Field) (t : Totals) (o : Outcome) → at field (added t o) ≡ (at field t + at field (adds o)) % 2 ^ 64
unfolding added
added-at field t o = at_each (λ get. (get t + get (adds o)) % 2 ^ 64) field

from_at : (field : Field) (t : Totals) (outcomes : List Outcome) → at field t < 2 ^ 64
    → at field (foldl added t outcomes) ≡ (at field t + total (λ o. at field (adds o)) outcomes) % 2 ^ 64
unfolding total
from_at field t [] h = sym (rw (add-zero (at field t)) (mod-eq_of_lt h))
from_at field t (o ∷ outcomes) h =
    let a = at field t in
    let b = at field (adds o) in
    let rest = total (λ p. at field (adds p)) outcomes in
    let one : at field (added t o) ≡ (a + b) % 2 ^ 64 = added-at field t o in
    from_at field (added t o) outcomes (rw one (mod-lt (a + b) (omega arith)))
    ∙ rw one (mod-add-mod (a + b) (2 ^ 64) rest)
    ∙ ap (λ (n : ℕ). n % 2 ^ 64) (add_assoc a b rest)

-- of any outcomes each field is the total modulo 2^64
pub running_at : (outcomes : List Outcome) (field : Field) → at field (running outcomes) ≡ at field (totals_of outcomes) % 2 ^ 64
unfolding running nothing
running_at outcomes field =
    let none : at field nothing ≡ 0 = at_each (λ get. 0) field in
    from_at field nothing outcomes (rw none (omega arith))
    ∙ rw none (ap (λ (n : ℕ). n % 2 ^ 64) (zero-add _ ∙ sym (totals_at outcomes field)))

-- where the totals fit in 64 bits they are the running totals
pub running_exact : (outcomes : List Outcome) → ((field : Field) → at field (totals_of outcomes) < 2 ^ 64) → running outcomes ≡ totals_of outcomes
running_exact outcomes fit = same_fields (λ field. running_at outcomes field ∙ mod-eq_of_lt (fit field))
