-- Laws of truth tables: a table is positive exactly where no single further position turns 1 into 0, and it has its function's values.
-- Assumes nothing.
use mathlib.Core.Path.{◌≡◌, refl, sym, ap, ap₂, ◌∙◌, subst}
use mathlib.Core.Bool.{Bool, true, false, not}
use mathlib.Core.List.{List}
use mathlib.Core.Logic.{◌⊎◌, inl, inr}
use Prim.Native.Nat.{ℕ, zero, suc, ◌+◌, ◌-◌, ◌*◌, ◌/◌, ◌%◌, ◌^◌, ◌<◌, zero-le}
use native.Mathlib.Nat.{eq-or-lt_of_le}
use native.Mathlib.Omega.{arith}
use lib.Dec.{eqb}
use lib.ListN.{length, get_or}
use lib.Seq.{ext_get_or}
use borrow.Author.Tests.{eqb-true, eq-eqb, not-true}
use Rattle.limits.specs.Limits.{byte_bits}
use Rattle.theory.specs.Lists.{from, any_below}
use Rattle.theory.specs.Sets.{has, gather, within, with_position}
use Rattle.theory.specs.Forms.{Positive}
use Rattle.theory.specs.Tables.{table_at, table_of, slips}
use Rattle.theory.proofs.Tests.{which, not_both, or_left, or_right, or_cases, and_left, and_right, and_both}
use Rattle.theory.proofs.Lists.{any_at, any_by, from_mem, from_at, any_below_none, any_below_no, length-tab, get_or-tab}
use Rattle.theory.proofs.Sets.{within_by, within_has, within_le, has_with, with_lt, has_gather, gather-lt, same_bits}
use Rattle.theory.proofs.Positions.{lacks_one}

-- ---- no slip, so positive

module _ (w : ℕ) (f : ℕ → Bool) (none : (v : ℕ) → v < 2 ^ w → slips w f v ≡ false) where
  one_more : (u i : ℕ) → u < 2 ^ w → i < w → f u ≡ true → f (with_position u i) ≡ true
  unfolding slips
  one_more u i h l e = go (which (f (with_position u i)))
    where
      go : (f (with_position u i) ≡ true) ⊎ (f (with_position u i) ≡ false) → f (with_position u i) ≡ true
      go (inl q) = q
      go (inr q) =
          absurd
          (not_both (and_both e (any_by (λ i. not (f (with_position u i))) {x = i} (from_mem 0 w zero-le (omega arith)) (rw q))) (none u h))

  climb : (n u v : ℕ) → v - u < n → v < 2 ^ w → within u v ≡ true → f u ≡ true → f v ≡ true
  climb zero u v d h q e = absurd (omega arith)
  climb (suc n) u v d h q e = go (eq-or-lt_of_le (within_le q)) (climb n)
    where
      go : (u ≡ v) ⊎ (u < v) → ((u v : ℕ) → v - u < n → v < 2 ^ w → within u v ≡ true → f u ≡ true → f v ≡ true) → f v ≡ true
      go (inl z) ih = subst (λ (k : ℕ). f k ≡ true) z e
      go (inr k) ih =
          let s = lacks_one w u v k h in
          let b : u < 2 ^ w = omega arith in
          let in_v : within (with_position u s.0) v ≡ true = inside s.0 s.1 b s.2 in
          ih (with_position u s.0) v (closer s.0 s.1 b s.3 in_v) h in_v (one_more u s.0 b s.1 e)
        where
          inside : (i : ℕ) → i < w → u < 2 ^ w → has v i ≡ true → within (with_position u i) v ≡ true
          inside i l b p =
              within_by w (with_position u i) v (with_lt w u i b l) (λ k c m. pick k (or_cases (has u k) _ (sym (has_with u i k) ∙ m)))
            where
              pick : (k : ℕ) → (has u k ≡ true) ⊎ (eqb k i ≡ true) → has v k ≡ true
              pick k (inl a) = within_has u v q k a
              pick k (inr a) = subst (λ (x : ℕ). has v x ≡ true) (sym (eqb-true k i a)) p

          closer : (i : ℕ) → i < w → u < 2 ^ w → has u i ≡ false → within (with_position u i) v ≡ true → v - with_position u i < n
          closer i l b p top =
              let up : within u (with_position u i) ≡ true = within_by w u (with_position u i) b (λ k c m. has_with u i k ∙ or_left _ m) in
              let new : has (with_position u i) i ≡ true = has_with u i i ∙ or_right (has u i) (eq-eqb i i refl) in
              let ne : u ≡ with_position u i → ⊥ = λ z. not_both (ap (λ (k : ℕ). has k i) z ∙ new) p in
              omega (arith, within_le up, within_le top)

  pub positive_by : Positive w f
  positive_by u v h q e = climb (suc v) u v (omega arith) h q e

-- ---- slips and positive, as tests

module _ (w : ℕ) (f : ℕ → Bool) where
  -- no slip, so positive
  pub fine_positive : any_below (slips w f) (2 ^ w) ≡ false → Positive w f
  fine_positive e = positive_by w f (any_below_no (slips w f) (2 ^ w) e)

  -- positive, so no slip
  pub positive_fine : Positive w f → any_below (slips w f) (2 ^ w) ≡ false
  unfolding slips
  positive_fine pos = any_below_none (slips w f) (2 ^ w) (λ v b. go v b (which (slips w f v)))
    where
      go : (v : ℕ) → v < 2 ^ w → (slips w f v ≡ true) ⊎ (slips w f v ≡ false) → slips w f v ≡ false
      go v b (inr e) = e
      go v b (inl e) =
          let s = any_at (λ i. not (f (with_position v i))) (from 0 w) (and_right (f v) _ e) in
          let l : s.0 < w = omega (arith, from_at 0 w s.1) in
          let up : within v (with_position v s.0) ≡ true =
          within_by w v (with_position v s.0) b (λ j k h. has_with v s.0 j ∙ or_left _ h) in
          absurd (not_both (pos v (with_position v s.0) (with_lt w v s.0 b l) up (and_left (f v) _ e)) (not-true _ s.2))

-- ---- a table and its values

-- the table of a function has its values
pub table_value : (n : ℕ) (f : ℕ → Bool) (v : ℕ) → v < byte_bits * n → table_at (table_of n f) v ≡ f v
unfolding table_at table_of
table_value n f v l =
    let e : byte_bits * (v / byte_bits) + v % byte_bits ≡ v = omega arith in
    ap (λ (b : ℕ). has b (v % byte_bits)) (get_or-tab 0 n _ (v / byte_bits) (omega arith))
    ∙ has_gather byte_bits (λ i. f (byte_bits * (v / byte_bits) + i)) (v % byte_bits) (omega arith)
    ∙ ap f e

-- a table of bytes is the table of its values
pub table_same : (f : ℕ → Bool) (tb : List ℕ) → ((j : ℕ) → j < length tb → get_or tb j 0 < 2 ^ byte_bits)
    → ((v : ℕ) → v < byte_bits * length tb → f v ≡ table_at tb v)
    → table_of (length tb) f ≡ tb
unfolding table_at table_of
table_same f tb bytes same =
    ext_get_or 0 _ tb (length-tab (length tb) _)
    (λ j h. byte j (rw (length-tab (length tb) (λ j. gather byte_bits (λ i. f (byte_bits * j + i)))) at h))
  where
    byte : (j : ℕ) → j < length tb → get_or (table_of (length tb) f) j 0 ≡ get_or tb j 0
    byte j h =
        get_or-tab 0 (length tb) _ j h
        ∙ same_bits byte_bits (gather byte_bits (λ i. f (byte_bits * j + i))) (get_or tb j 0) (gather-lt byte_bits _) (bytes j h) bits
      where
        bits : (i : ℕ) → i < byte_bits → has (gather byte_bits (λ i. f (byte_bits * j + i))) i ≡ has (get_or tb j 0) i
        bits i k =
            let q : (byte_bits * j + i) / byte_bits ≡ j = omega arith in
            let r : (byte_bits * j + i) % byte_bits ≡ i = omega arith in
            has_gather byte_bits (λ i. f (byte_bits * j + i)) i k
            ∙ same (byte_bits * j + i) (omega arith)
            ∙ ap₂ (λ (a b : ℕ). has (get_or tb a 0) b) q r
