-- A list has no bad index exactly where it is a form.
-- Assumes nothing.
use mathlib.Core.Path.{◌≡◌, refl, ap}
use mathlib.Core.Bool.{Bool, true, false, ◌&&◌, ◌||◌}
use mathlib.Core.List.Memᴰ
use mathlib.Core.List.{List, [], ◌∷◌}
use mathlib.Core.Logic.{◌⊎◌, inl, inr}
use Prim.Native.Nat.{ℕ, zero, suc, ◌+◌, ◌-◌, ◌^◌, ◌≤◌, ◌<◌, suc-le-suc, zero-le}
use native.Mathlib.Nat.{le_of_suc-le-suc, not-suc-le-zero}
use native.Mathlib.Omega.{arith}
use lib.Dec.{leb, ltb}
use lib.ListN.{length, get_or, take}
use lib.Seq.{get_or-take}
use borrow.Author.Tests.{leb-false, lt-leb, ltb-true, ltb-false, lt-ltb, le-ltb}
use Rattle.theory.specs.Lists.{any_below}
use Rattle.theory.specs.Sets.{within}
use Rattle.theory.specs.Forms.{Valid, contains_earlier, is_bad}
use Rattle.theory.proofs.Tests.{which, or_no_left, or_no_right}
use Rattle.theory.proofs.Lists.{any_below_none, any_below_no, mem_index, index_mem}
use Rattle.theory.proofs.Searches.{first_cong}

-- every term is a set of w positions; of two, the later is above the earlier and does not contain it
pub record Apart (w : ℕ) (ts : List ℕ) : Type 0 where
  pub small : (i : ℕ) → i < length ts → get_or ts i 0 < 2 ^ w
  pub rises : (i j : ℕ) → i < j → j < length ts → get_or ts i 0 < get_or ts j 0
  pub bare : (i j : ℕ) → i < j → j < length ts → within (get_or ts i 0) (get_or ts j 0) ≡ false

apart_valid : (w : ℕ) (ts : List ℕ) → Apart w ts → Valid w ts
apart_valid w [] h = tt
apart_valid w (m ∷ f) h = (
  h.small 0 (suc-le-suc zero-le),
  λ k i. later k (mem_index 0 i),
  apart_valid w f (record {
    small = λ i l. h.small (suc i) (suc-le-suc l);
    rises = λ i j l u. h.rises (suc i) (suc j) (suc-le-suc l) (suc-le-suc u);
    bare = λ i j l u. h.bare (suc i) (suc j) (suc-le-suc l) (suc-le-suc u);
  }),
)
  where
    later : (k : ℕ) → (j : ℕ) × (j < length f) × (get_or f j 0 ≡ k) → (m < k) × (within m k ≡ false)
    later k (j, l, e) =
        rw (← e) (h.rises 0 (suc j) (suc-le-suc zero-le) (suc-le-suc l), h.bare 0 (suc j) (suc-le-suc zero-le) (suc-le-suc l))

valid_apart : (w : ℕ) (ts : List ℕ) → Valid w ts → Apart w ts
valid_apart w [] ok = record {
  small = λ i l. absurd (not-suc-le-zero l);
  rises = λ i j l u. absurd (not-suc-le-zero u);
  bare = λ i j l u. absurd (not-suc-le-zero u);
}
valid_apart w (m ∷ f) ok = go (valid_apart w f ok.2)
  where
    go : Apart w f → Apart w (m ∷ f)
    go h = record { small = s; rises = r; bare = b }
      where
        s : (i : ℕ) → i < length (m ∷ f) → get_or (m ∷ f) i 0 < 2 ^ w
        s zero l = ok.0
        s (suc i) l = h.small i (le_of_suc-le-suc l)

        r : (i j : ℕ) → i < j → j < length (m ∷ f) → get_or (m ∷ f) i 0 < get_or (m ∷ f) j 0
        r i zero l u = absurd (not-suc-le-zero l)
        r zero (suc j) l u = (ok.1 (get_or f j 0) (index_mem 0 f j (le_of_suc-le-suc u))).0
        r (suc i) (suc j) l u = h.rises i j (le_of_suc-le-suc l) (le_of_suc-le-suc u)

        b : (i j : ℕ) → i < j → j < length (m ∷ f) → within (get_or (m ∷ f) i 0) (get_or (m ∷ f) j 0) ≡ false
        b i zero l u = absurd (not-suc-le-zero l)
        b zero (suc j) l u = (ok.1 (get_or f j 0) (index_mem 0 f j (le_of_suc-le-suc u))).1
        b (suc i) (suc j) l u = h.bare i j (le_of_suc-le-suc l) (le_of_suc-le-suc u)

-- ---- no bad index

module _ (w : ℕ) (ts : List ℕ) (fine : (i : ℕ) → i < length ts → is_bad w ts i ≡ false) where
  fine_small : (i : ℕ) → i < length ts → get_or ts i 0 < 2 ^ w
  unfolding is_bad
  fine_small i l = leb-false (2 ^ w) (get_or ts i 0) (or_no_left _ _ (or_no_left _ _ (fine i l)))

  fine_next : (i : ℕ) → suc i < length ts → get_or ts i 0 < get_or ts (suc i) 0
  unfolding is_bad
  fine_next i l =
      let q = or_no_right (leb (2 ^ w) (get_or ts (suc i) 0)) _ (or_no_left _ _ (fine (suc i) l)) in
      let e : (suc i - 1) ≡ i = omega arith in
      leb-false _ _ (rw e at (rw (lt-ltb 0 (suc i) (omega arith)) at q))

  fine_rises : (i j : ℕ) → i < j → j < length ts → get_or ts i 0 < get_or ts j 0
  fine_rises i zero l u = absurd (not-suc-le-zero l)
  fine_rises i (suc j) l u = go (which (ltb i j)) (λ k. fine_rises i j k (omega arith))
    where
      go : (ltb i j ≡ true) ⊎ (ltb i j ≡ false) → (i < j → get_or ts i 0 < get_or ts j 0) → get_or ts i 0 < get_or ts (suc j) 0
      go (inl e) ih = omega (arith, ih (ltb-true i j e), fine_next j u)
      go (inr e) ih = let q : i ≡ j = omega (arith, ltb-false i j e) in rw q (fine_next j u)

  fine_bare : (i j : ℕ) → i < j → j < length ts → within (get_or ts i 0) (get_or ts j 0) ≡ false
  unfolding is_bad contains_earlier
  fine_bare i j l u =
      any_below_no (λ k. within (get_or ts k 0) (get_or ts j 0)) j
      (or_no_right (leb (2 ^ w) (get_or ts j 0) || (ltb 0 j && leb (get_or ts j 0) (get_or ts (j - 1) 0))) _ (fine j u)) i l

  pub fine_valid : Valid w ts
  fine_valid = apart_valid w ts (record { small = fine_small; rises = fine_rises; bare = fine_bare })

pub valid_fine : (w : ℕ) (ts : List ℕ) → Valid w ts → (i : ℕ) → i < length ts → is_bad w ts i ≡ false
unfolding is_bad contains_earlier
valid_fine w ts ok i l = go i l
  where
    h : Apart w ts
    h = valid_apart w ts ok

    none_within : (i : ℕ) → i < length ts → any_below (λ j. within (get_or ts j 0) (get_or ts i 0)) i ≡ false
    none_within i l = any_below_none (λ j. within (get_or ts j 0) (get_or ts i 0)) i (λ j k. h.bare j i k l)

    go : (i : ℕ) → i < length ts → (leb (2 ^ w) (get_or ts i 0) || (ltb 0 i && leb (get_or ts i 0) (get_or ts (i - 1) 0)) || contains_earlier ts i)
        ≡ false
    go zero l = rw (lt-leb (2 ^ w) _ (h.small 0 l), le-ltb 0 0 zero-le, none_within 0 l)
    go (suc i) l =
        let e : (suc i - 1) ≡ i = omega arith in
        let up = lt-leb (get_or ts (suc i) 0) (get_or ts i 0) (h.rises i (suc i) (omega arith) l) in
        rw (lt-leb (2 ^ w) _ (h.small (suc i) l), e, up, none_within (suc i) l) (and_no (ltb 0 (suc i)))
      where
        and_no : (b : Bool) → ((b && false) || false) ≡ false
        and_no true = refl
        and_no false = refl

-- ---- forms are short

-- rising terms below 2 ^ w, the first of them m
room : (w m : ℕ) (f : List ℕ) → Valid w (m ∷ f) → m + length (m ∷ f) ≤ 2 ^ w
room w m [] ok = omega (arith, ok.0)
room w m (k ∷ f) ok = omega (arith, (ok.1 k (Memᴰ.head refl)).0, room w k f ok.2)

pub form_short : (w : ℕ) (ts : List ℕ) → Valid w ts → length ts ≤ 2 ^ w
form_short w [] ok = zero-le
form_short w (m ∷ f) ok = omega (arith, room w m f ok)

-- so a longer list has a bad term
pub long_bad : (w : ℕ) (ts : List ℕ) → 2 ^ w < length ts → any_below (is_bad w ts) (length ts) ≡ true
long_bad w ts h = go (which (any_below (is_bad w ts) (length ts)))
  where
    go : (any_below (is_bad w ts) (length ts) ≡ true) ⊎ (any_below (is_bad w ts) (length ts) ≡ false) → any_below (is_bad w ts) (length ts) ≡ true
    go (inl e) = e
    go (inr e) = absurd (omega (arith, form_short w ts (fine_valid w ts (any_below_no (is_bad w ts) (length ts) e))))

-- an index is bad of the list where it is of its front
pub bad_front : (w n : ℕ) (ts : List ℕ) (i : ℕ) → i < n → is_bad w (take n ts) i ≡ is_bad w ts i
unfolding is_bad contains_earlier any_below
bad_front w n ts i h =
    let same = first_cong (λ j. within (get_or (take n ts) j 0) (get_or ts i 0)) (λ j. within (get_or ts j 0) (get_or ts i 0)) i
    (λ j l. ap (λ (t : ℕ). within t (get_or ts i 0)) (get_or-take n ts j 0 (omega arith))) in
    rw (get_or-take n ts i 0 h, get_or-take n ts (i - 1) 0 (omega arith), same)
