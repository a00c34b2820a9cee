-- A positive function's minimal patterns: it is enough to look at one position less.
-- Assumes nothing.
use mathlib.Core.Path.{◌≡◌, sym, ◌∙◌}
use mathlib.Core.Bool.{Bool, true, false, not, ◌&&◌}
use mathlib.Core.Logic.{◌⊎◌, inl, inr}
use Prim.Native.Nat.{ℕ, ◌-◌, ◌^◌, ◌<◌, zero-le}
use native.Mathlib.Omega.{arith}
use lib.Dec.{eqb}
use lib.Pow.{pow_pos}
use borrow.Author.Tests.{eqb-true, not-true}
use Rattle.theory.specs.Lists.{any, from}
use Rattle.theory.specs.Sets.{has, within}
use Rattle.theory.specs.Forms.{Positive, minimal}
use Rattle.theory.proofs.Tests.{same_test, which, not_both, and_left, and_right, and_both}
use Rattle.theory.proofs.Lists.{any_by, any_none, from_mem}
use Rattle.theory.proofs.Sets.{within_by, within_has}
use Rattle.theory.proofs.Canon.{minimal_one, minimal_none, minimal_by}
use Rattle.theory.proofs.Positions.{has_le, has_less, lacks_one}

-- f is 1 on v without the position i, which v has
unfoldable pub keeps_without : (ℕ → Bool) → ℕ → ℕ → Bool
keeps_without f v i = has v i && f (v - 2 ^ i)

-- f is 1 on v, and 0 with any one position less
unfoldable pub minimal_by_one : ℕ → (ℕ → Bool) → ℕ → Bool
minimal_by_one w f v = f v && not (any (keeps_without f v) (from 0 w))

module _ (w : ℕ) (f : ℕ → Bool) (pos : Positive w f) (v : ℕ) (b : v < 2 ^ w) where
  -- v with one position less lies within v
  less_within : (i : ℕ) → has v i ≡ true → within (v - 2 ^ i) v ≡ true
  less_within i h = within_by w (v - 2 ^ i) v (omega arith) (λ j l k. and_left (has v j) _ (sym (has_less v i j h) ∙ k))

  -- another pattern within v lies within v with one position less
  below_less : (u i : ℕ) → u < v → within u v ≡ true → has v i ≡ true → has u i ≡ false → within u (v - 2 ^ i) ≡ true
  below_less u i l q h k =
      within_by w u (v - 2 ^ i) (omega arith) (λ j m e. has_less v i j h ∙ and_both (within_has u v q j e) (other j e (which (eqb j i))))
    where
      other : (j : ℕ) → has u j ≡ true → (eqb j i ≡ true) ⊎ (eqb j i ≡ false) → not (eqb j i) ≡ true
      other j e (inl z) = absurd (not_both e (rw (eqb-true j i z) k))
      other j e (inr z) = rw z

  pub one_less : minimal_by_one w f v ≡ minimal f v
  unfolding minimal_by_one keeps_without
  one_less = same_test to back
    where
      to : minimal_by_one w f v ≡ true → minimal f v ≡ true
      to e =
          minimal_by f v (and_left (f v) _ e)
          (λ u l p q. let s = lacks_one w u v l b in
          let less : f (v - 2 ^ s.0) ≡ true = pos u (v - 2 ^ s.0) (omega arith) (below_less u s.0 l q s.2 s.3) p in
          not_both (any_by (keeps_without f v) {x = s.0} (from_mem 0 w zero-le (omega (arith, s.1))) (and_both s.2 less))
          (not-true _ (and_right (f v) _ e)))

      back : minimal f v ≡ true → minimal_by_one w f v ≡ true
      back e = and_both (minimal_one f v e) (rw (any_none (keeps_without f v) (from 0 w) (λ i m. none i (which (keeps_without f v i)))))
        where
          none : (i : ℕ) → (keeps_without f v i ≡ true) ⊎ (keeps_without f v i ≡ false) → keeps_without f v i ≡ false
          none i (inr z) = z
          none i (inl z) =
              let h = and_left (has v i) _ z in
              absurd (minimal_none f (v - 2 ^ i) v e (omega (arith, has_le v i h, pow_pos i)) (and_right (has v i) _ z) (less_within i h))
