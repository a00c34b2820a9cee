-- Decoding: a decoded step's fields are allowed ones, the table by ranges of codes, and how many offsets a set has.
-- Assumes nothing.
use Rattle.std.specs.Prelude.{Result, Ok, Err}
use Rattle.refusals.specs.declared.Refusal.{Refusal}
use Rattle.refusals.specs.declared.Refusal.TheVariants.{StepCode}
use mathlib.Core.Path.{◌≡◌, refl, sym, ap, subst, ◌∙◌}
use mathlib.Core.Bool.{Bool, true, false, cond}
use mathlib.Core.List.{List}
use mathlib.Core.Logic.{◌⊎◌, inl, inr}
use Prim.Native.Nat.{ℕ, zero, suc, ◌+◌, ◌-◌, ◌*◌, ◌%◌, ◌^◌, ◌≤◌, ◌<◌}
use lib.Pow.{pow_pos}
use native.Mathlib.Omega.{arith}
use lib.Bits.{bit_and, and_le_r}
use lib.Count.{ones}
use lib.Dec.{leb, eqb}
use lib.ListN.{length, get_or-eq_default}
use borrow.Author.Tests.{leb-true, eqb-true, eqb-false, ne_eqb}
use Rattle.limits.specs.Limits.{width, step_bytes}
use Rattle.theory.specs.Lists.{from, bit}
use Rattle.theory.specs.Sets.{has, is_set, gather, positions}
use Rattle.theory.specs.Signals.{window, size}
use Rattle.theory.proofs.Tests.{which, and_left, and_right, and_true}
use Rattle.theory.proofs.Lists.{keep_cong, from_at}
use Rattle.theory.proofs.Sets.{has_and, has_gather, gather-lt}
use Rattle.theory.proofs.Positions.{positions_ones}
use Rattle.recipes.specs.declared.Step.{Step}
use Rattle.recipes.specs.declared.Step.TheVariants.{Signal, Erode, Dilate, Open, Close, Rank, Median, Larger, Smaller}
use Rattle.recipes.specs.Steps.{no_fields, set_alone, rank_fits, odd_set, allowed, decoded_of, step_at}
use Rattle.recipes.specs.Private.{change_of, join_of}

-- a set of offsets, with some
abbrev pub IsSet : ℕ → Type 0
IsSet B = is_set width B ≡ true

-- what is so of each step that is decoded: its set is one of offsets, its rank 1 to the set's size, and a median's size is odd
abbrev pub Sane : Step → Type 0
Sane Signal = Unit {0}
Sane (Erode B) = IsSet B
Sane (Dilate B) = IsSet B
Sane (Open B) = IsSet B
Sane (Close B) = IsSet B
Sane (Rank k B) = IsSet B × (1 ≤ k) × (k ≤ size window B)
Sane (Median B) = IsSet B × (size window B % 2 ≡ 1)
Sane Larger = Unit {0}
Sane Smaller = Unit {0}

-- what a decoding promises
abbrev SaneIn : Result Step Refusal → Type 0
SaneIn (Ok s) = Sane s
SaneIn (Err why) = Unit {0}

record Promised (d : Result Step Refusal) : Type 0 where
  pub sane : SaneIn d

allowed_sane : (i : ℕ) (ok : Bool) (s : Step) → (ok ≡ true → Sane s) → Promised (allowed i ok s)
allowed_sane i true s f = record { sane = f refl }
allowed_sane i false s f = record { sane = tt }

row_sane : (b : Bool) {x y : Result Step Refusal} → Promised x → Promised y → Promised (cond b x y)
row_sane true p q = p
row_sane false p q = q

alone_sane : (k B : ℕ) → set_alone k B ≡ true → IsSet B
alone_sane k B e = and_right (eqb k 0) _ e

rank_sane : (k B : ℕ) → rank_fits k B ≡ true → Sane (Rank k B)
unfolding rank_fits
rank_sane k B e =
    let r = and_right (is_set width B) _ e in
    (and_left _ _ e, leb-true 1 k (and_left _ _ r), leb-true k (size window B) (and_right (leb 1 k) _ r))

median_sane : (k B : ℕ) → odd_set k B ≡ true → Sane (Median B)
unfolding odd_set
median_sane k B e = (alone_sane k B (and_left _ _ e), eqb-true (size window B % 2) 1 (and_right (set_alone k B) _ e))

table_sane : (i code k B : ℕ) → Promised (decoded_of i code k B)
unfolding decoded_of
table_sane i code k B =
    row_sane (eqb code 0) (allowed_sane i (no_fields k B) Signal (λ e. tt))
    (row_sane (eqb code 1) (allowed_sane i (set_alone k B) (Erode B) (alone_sane k B))
    (row_sane (eqb code 2) (allowed_sane i (set_alone k B) (Dilate B) (alone_sane k B))
    (row_sane (eqb code 3) (allowed_sane i (set_alone k B) (Open B) (alone_sane k B))
    (row_sane (eqb code 4) (allowed_sane i (set_alone k B) (Close B) (alone_sane k B))
    (row_sane (eqb code 5) (allowed_sane i (rank_fits k B) (Rank k B) (rank_sane k B))
    (row_sane (eqb code 6) (allowed_sane i (odd_set k B) (Median B) (median_sane k B))
    (row_sane (eqb code 7) (allowed_sane i (no_fields k B) Larger (λ e. tt))
    (row_sane (eqb code 8) (allowed_sane i (no_fields k B) Smaller (λ e. tt)) (record { sane = tt })))))))))

pub step_sane : (r : List ℕ) (i : ℕ) (s : Step) → step_at r i ≡ Ok s → Sane s
unfolding step_at
step_sane r i s e = subst SaneIn e (table_sane i _ _ _).sane

-- past the end every byte is 0: a signal step
pub step_past : (r : List ℕ) (i : ℕ) → length r ≤ step_bytes * i → step_at r i ≡ Ok Signal
unfolding step_at decoded_of
step_past r i h =
    rw (
      get_or-eq_default r 0 {n = step_bytes * i} h,
      get_or-eq_default r 0 {n = step_bytes * i + 1} (omega arith),
      get_or-eq_default r 0 {n = step_bytes * i + 2} (omega arith),
      get_or-eq_default r 0 {n = step_bytes * i + 3} (omega arith),
    )

-- ---- the table by ranges of codes

module _ (i k B : ℕ) where
  pub codes_1_4 : (code : ℕ) → 1 ≤ code → code ≤ 4 → decoded_of i code k B ≡ allowed i (set_alone k B) (change_of code B)
  unfolding decoded_of
  codes_1_4 zero l h = absurd (omega arith)
  codes_1_4 (suc zero) l h = refl
  codes_1_4 (suc (suc zero)) l h = refl
  codes_1_4 (suc (suc (suc zero))) l h = refl
  codes_1_4 (suc (suc (suc (suc zero)))) l h = refl
  codes_1_4 (suc (suc (suc (suc (suc c))))) l h = absurd (omega arith)

  pub codes_7_8 : (code : ℕ) → 4 < code → (code ≡ 5 → ⊥) → (code ≡ 6 → ⊥) → code ≤ 8
      → decoded_of i code k B ≡ allowed i (no_fields k B) (join_of code)
  unfolding decoded_of
  codes_7_8 code l five six h = go (which (eqb code 7))
    where
      go : (eqb code 7 ≡ true) ⊎ (eqb code 7 ≡ false) → decoded_of i code k B ≡ allowed i (no_fields k B) (join_of code)
      go (inl e) = rw (eqb-true code 7 e)
      go (inr e) = let ne = eqb-false code 7 e in let q : code ≡ 8 = omega arith in rw q

  pub codes_over : (code : ℕ) → 8 < code → decoded_of i code k B ≡ Err (StepCode i)
  unfolding decoded_of
  codes_over code h =
      rw (other 0 refl, other 1 refl, other 2 refl, other 3 refl, other 4 refl, other 5 refl, other 6 refl, other 7 refl, other 8 refl)
    where
      other : (n : ℕ) → leb n 8 ≡ true → eqb code n ≡ false
      other n l = ne_eqb code n (λ e. omega (arith, leb-true n 8 l))

-- ---- the size of a set

-- the set of all positions below w
full : (w : ℕ) → gather w (λ i. true) ≡ 2 ^ w - 1
unfolding gather bit
full zero = refl
full (suc w) = let e = full w in omega (arith, pow_pos w)

-- the positions of B below w are as many as the ones among its lowest w bits
pub low_ones : (w B : ℕ) → length (positions w B) ≡ ones (bit_and B (2 ^ w - 1))
unfolding positions
low_ones w B =
    let all = gather w (λ i. true) in
    let low : bit_and B all < 2 ^ w = omega (arith, and_le_r B all, gather-lt w (λ i. true)) in
    let same = keep_cong (has B) (has (bit_and B all)) (from 0 w) (λ i m. in_all i (omega (arith, from_at 0 w m))) in
    subst (λ (m : ℕ). length (positions w B) ≡ ones (bit_and B m)) (full w) (ap length same ∙ positions_ones w (bit_and B all) low)
  where
    in_all : (i : ℕ) → i < w → has B i ≡ has (bit_and B (gather w (λ j. true))) i
    in_all i l = sym (has_and B (gather w (λ j. true)) i ∙ rw (has_gather w (λ j. true) i l) (and_true (has B i)))
