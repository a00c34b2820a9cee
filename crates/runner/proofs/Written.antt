-- The stack of rows: a row written on those below it, and what is left where one is added, changed or joined.
-- Assumes nothing.
use mathlib.Core.Path.{◌≡◌, refl, sym, ap, ap₂, ◌∙◌}
use mathlib.Core.Bool.{Bool, cond}
use mathlib.Core.List.{List, ◌∷◌, ◌++◌, append_assoc}
use mathlib.Core.Option.{some}
use Prim.Native.Nat.{ℕ, zero, suc, ◌+◌, ◌-◌, ◌*◌, ◌≤◌, ◌<◌}
use native.Mathlib.Omega.{arith}
use lib.ListN.{length, take, drop, length-drop, take-append-drop}
use lib.Seq.{length-take-le, take-append-le, drop-append-le, take_at, drop_at, drop-drop}
use borrow.Author.Tests.{lt-ltb, le-leb}
use borrow.Rule.Slice.PartMut.{mid_of}
use Rattle.std.proofs.lemmas.List.{drop-take}
use Rattle.std.proofs.Common.{take-add}
use Rattle.limits.specs.Limits.{reach, most_signals}
use Rattle.theory.proofs.Lists.{length-tab}
use Rattle.recipes.specs.Machine.{added, replaced, joined}
use Rattle.rows.specs.declared.Change.{Change}
use Rattle.rows.specs.Sizes.{opening, longest_row}
use Rattle.rows.specs.Private.{margin, Sound}
use Rattle.rows.specs.Rows.{widened, paired}
use Rattle.rows.specs.Changes.{after_change, can_change}
use Rattle.rows.proofs.Passes.{put_widened, put_paired, wider_by, put_widened_fits, put_paired_fits}
use Rattle.rows.proofs.Parts.{mid_length, row_fits}
use Rattle.runner.specs.Private.{rows_in, Holds}

pub length_rows : (m h : ℕ) (l : List ℕ) → length (rows_in m h l) ≡ h
unfolding rows_in
length_rows m zero l = refl
length_rows m (suc h) l = ap suc (length_rows m h l)

-- ---- a row written on others

-- rows stand in the front of a list
rows_front : (m h : ℕ) (xs ys : List ℕ) → h * m ≤ length xs → rows_in m h (xs ++ ys) ≡ rows_in m h xs
unfolding rows_in
rows_front m zero xs ys room = refl
rows_front m (suc h) xs ys room =
    let rest : m ≤ length (drop (h * m) xs) = omega (arith, length-drop (h * m) xs) in
    ap₂ {C = List (List ℕ)} (λ a st. a ∷ st)
    (ap (take m) (drop-append-le (h * m) xs ys (omega arith)) ∙ take-append-le m (drop (h * m) xs) ys rest)
    (rows_front m h xs ys (omega arith))

-- what stands in a part that is back
part_back : (a k : ℕ) (xs ys rest : List ℕ) → a ≤ length xs → length ys ≡ k → take k (drop a (take a xs ++ (ys ++ rest))) ≡ ys
part_back a k xs ys rest h e = ap (take k) (drop_at (take a xs) (ys ++ rest) a (length-take-le a xs h)) ∙ take_at ys rest k e

-- row r is new, and those below it are as they were
row_written : (m r : ℕ) (l new rest : List ℕ) → r * m ≤ length l → length new ≡ m
    → rows_in m (suc r) (take (r * m) l ++ (new ++ rest)) ≡ new ∷ rows_in m r l
unfolding rows_in
row_written m r l new rest room full =
    let front : r * m ≤ length (take (r * m) l) = omega (arith, length-take-le (r * m) l room) in
    ap₂ {C = List (List ℕ)} (λ a st. a ∷ st)
    (part_back (r * m) m l new rest room full)
    (rows_front m r (take (r * m) l) (new ++ rest) front
    ∙ sym (rows_front m r (take (r * m) l) (drop (r * m) l) front)
    ∙ ap (rows_in m r) (take-append-drop (r * m) l))

-- two halves paired
pub paired_halves : (high : Bool) (m : ℕ) (both lower upper new : List ℕ) → length both ≡ m + m → lower ≡ take m both → upper ≡ drop m both
    → new ≡ put_paired high upper lower → new ++ upper ≡ paired high (drop m both) (take m both) ++ drop m both
paired_halves high m both lower upper new long el eu e =
    let front : length lower ≡ m = ap length el ∙ length-take-le m both (omega arith) in
    let back : length upper ≡ m = ap length eu ∙ length-drop m both ∙ omega arith in
    ap₂ (λ (a b : List ℕ). a ++ b) (e ∙ put_paired_fits high upper lower (back ∙ sym front) ∙ ap₂ (paired high) eu el) eu

-- two neighbouring rows paired: the k elements from u on were lent, in two halves
pub paired_in : (high : Bool) (u m k : ℕ) (values new lower upper : List ℕ) → k ≡ m + m → u + m + m ≤ length values
    → lower ≡ take m (take k (drop u values)) → upper ≡ drop m (take k (drop u values)) → new ≡ paired high upper lower
    → take u values ++ ((new ++ upper) ++ drop k (drop u values))
    ≡ take u values ++ (paired high (take m (drop (u + m) values)) (take m (drop u values)) ++ drop (u + m) values)
paired_in high u m k values new lower upper ek room el eu e =
    let xs = drop u values in
    let long : length xs ≡ length values - u = length-drop u values in
    let next : drop m xs ≡ drop (u + m) values = drop-drop m u values in
    let front : length (take m xs) ≡ m = length-take-le m xs (omega arith) in
    let back : length (take m (drop m xs)) ≡ m = length-take-le m (drop m xs) (omega (arith, length-drop m xs)) in
    let is_lower : lower ≡ take m xs = el ∙ rw (ek, take-add m m xs) (take_at (take m xs) (take m (drop m xs)) m front) in
    let is_upper : upper ≡ take m (drop m xs) = eu ∙ rw ek (drop-take m m xs) in
    let is : new ≡ paired high (take m (drop (u + m) values)) (take m xs) = e ∙ ap₂ (paired high) (is_upper ∙ ap (take m) next) is_lower in
    let rest : upper ++ drop k xs ≡ drop (u + m) values =
    ap₂ (λ (a b : List ℕ). a ++ b) is_upper (ap (λ (n : ℕ). drop n xs) ek ∙ sym (drop-drop m m xs)) ∙ take-append-drop m (drop m xs) ∙ next in
    ap (λ (l : List ℕ). take u values ++ l)
    (append_assoc new upper (drop k xs) ∙ ap₂ (λ (a b : List ℕ). a ++ b) is rest)

-- ---- one step's work: row r is lent, the m elements from a on, and a new one is back in its place

module _ {m : ℕ} {stack : List ℕ} {h : ℕ} (st : Holds m stack h) where
  -- a row of the stack, as it is lent from a on
  abbrev lent : ℕ → List ℕ
  lent a = mid_of a (a + m - a) stack

  module _ (r a : ℕ) (below : r < most_signals) (place : a ≡ r * m) where
    sized : a + m - a ≡ m
    sized = omega arith

    fits : r * m + m ≤ length stack
    fits = omega (arith, row_fits r most_signals m below, st.short, st.deep)

    lent_length : length (lent a) ≡ m
    lent_length = mid_length a (a + m - a) stack (omega (arith, fits)) ∙ sized

    -- it is the last of the rows up to it
    lent_last : (h' : ℕ) → h' ≡ suc r → rows_in m h' stack ≡ lent a ∷ rows_in m r stack
    unfolding rows_in
    lent_last h' e = rw (sized, place, e)

    -- and so is the new one, once it is back
    back_last : (h' : ℕ) (new rest : List ℕ) → h' ≡ suc r → length new ≡ length (lent a)
        → rows_in m h' (take a stack ++ (new ++ rest)) ≡ new ∷ rows_in m r stack
    back_last h' new rest e same = rw (place, e) (row_written m r stack new rest (omega (arith, fits)) (same ∙ lent_length))

  -- a row is added
  pub pushed : (l r : ℕ) (s : List ℕ) (a : ℕ) (new rest : List ℕ) → h < most_signals → a ≡ h * m → m ≡ length s + margin
      → length new ≡ length (lent a) → new ≡ put_widened reach l r s (lent a)
      → some (rows_in m (h + 1) (take a stack ++ (new ++ rest))) ≡ added (widened reach l r s) (rows_in m h stack)
  unfolding added
  pushed l r s a new rest more place wide same e =
      let is : new ≡ widened reach l r s = e ∙ put_widened_fits reach l r s (lent a) (lent_length h a more place ∙ wide) in
      rw (length_rows m h stack, lt-ltb h most_signals more, ← is) (ap some (back_last h a more place (h + 1) new rest (omega arith) same))

  -- the last row is changed
  pub changed_last : (by : Change) (l r a : ℕ) (new room rest : List ℕ) → 0 < h → a ≡ (h - 1) * m → Sound by
      → length room ≡ m + 2 * opening → length new ≡ length (lent a) → new ≡ cond (can_change by (lent a) room) (after_change by l r (lent a)) (lent a)
      → some (rows_in m h (take a stack ++ (new ++ rest))) ≡ replaced (after_change by l r) (rows_in m h stack)
  unfolding replaced can_change
  changed_last by l r a new room rest more place sound wide same e =
      let last : h ≡ suc (h - 1) = omega arith in
      let below : h - 1 < most_signals = omega (arith, st.few) in
      let long = lent_length (h - 1) a below place in
      let short : length (lent a) ≤ longest_row = omega (arith, st.short) in
      let wider = wider_by opening (lent a) room (omega arith) in
      let is : new ≡ after_change by l r (lent a) = rw (sound, le-leb _ _ short, wider) at e in
      rw (lent_last (h - 1) a below place h last, ← is) (ap some (back_last (h - 1) a below place h new rest last same))

  -- the last two rows stand one after the other
  module _ (more : 1 < h) (a : ℕ) (place : a ≡ (h - 2) * m) where
    next : a + m ≡ (h - 1) * m
    next =
        let n : h - 1 ≡ suc (h - 2) = omega arith in
        rw (place, n) (omega arith)

    pub two_rows : a + m + m ≤ length stack
    two_rows = rw next (fits (h - 1) (a + m) (omega (arith, st.few)) next)

  -- and become one
  joined_rows : (high : Bool) (a : ℕ) (new : List ℕ) → 1 < h → a ≡ (h - 2) * m
      → new ≡ take a stack ++ (paired high (take m (drop (a + m) stack)) (take m (drop a stack)) ++ drop (a + m) stack)
      → some (rows_in m (h - 1) new) ≡ joined (λ under last. paired high last under) (rows_in m h stack)
  unfolding joined paired
  joined_rows high a new more place e =
      let last : h ≡ suc (h - 1) = omega arith in
      let under : h - 1 ≡ suc (h - 2) = omega arith in
      let below_b : h - 1 < most_signals = omega (arith, st.few) in
      let below_a : h - 2 < most_signals = omega (arith, st.few) in
      let sized : a + m - a ≡ m = omega arith in
      let sized' : a + m + m - (a + m) ≡ m = omega arith in
      let top : rows_in m h stack ≡ take m (drop (a + m) stack) ∷ rows_in m (h - 1) stack =
      rw sized' at (lent_last (h - 1) (a + m) below_b (next more a place) h last) in
      let rest : rows_in m (h - 1) stack ≡ take m (drop a stack) ∷ rows_in m (h - 2) stack =
      rw sized at (lent_last (h - 2) a below_a place (h - 1) under) in
      let pair = paired high (take m (drop (a + m) stack)) (take m (drop a stack)) in
      rw (top, rest, e)
      (ap some (back_last (h - 2) a below_a place (h - 1) pair (drop (a + m) stack) under (length-tab (length (take m (drop a stack))) _ ∙ rw sized refl)))

  pub joined_last : (high : Bool) (a k : ℕ) (both : List ℕ) → 1 < h → a ≡ (h - 2) * m → k ≡ m + m
      → both ≡ paired high (drop m (mid_of a k stack)) (take m (mid_of a k stack)) ++ drop m (mid_of a k stack)
      → some (rows_in m (h - 1) (take a stack ++ (both ++ drop k (drop a stack)))) ≡ joined (λ under last. paired high last under) (rows_in m h stack)
  joined_last high a k both more place ek e =
      let mid = mid_of a k stack in
      joined_rows high a _ more place
      (ap (λ (l : List ℕ). take a stack ++ (l ++ drop k (drop a stack))) e
      ∙ paired_in high a m k stack (paired high (drop m mid) (take m mid)) (take m mid) (drop m mid) ek (two_rows more a place) refl refl refl)
