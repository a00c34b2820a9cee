-- Laws of rows: between its two values a row shows its plan everywhere. So a pick around each index of a row is the row of the pick, two
-- rows are paired index by index, and the scan's own row is the scan widened.
-- Assumes nothing.
use mathlib.Core.Path.{◌≡◌, refl, sym, ap, ap₂, ◌∙◌, subst}
use mathlib.Core.Bool.{Bool, true, false}
use mathlib.Core.List.{List, [], ◌∷◌}
use Prim.Native.Nat.{ℕ, suc, ◌+◌, ◌<◌, zero-le}
use native.Mathlib.Omega.{arith}
use lib.ListN.{length, get_or}
use lib.IntN.{ℤ, pos, negsuc, sub_ℕ, ◌+ℤ◌}
use Rattle.limits.specs.Limits.{reach}
use Rattle.theory.specs.Lists.{tab}
use Rattle.theory.specs.Orders.{counts, larger, smaller}
use Rattle.theory.specs.Ranks.{Pick}
use Rattle.theory.specs.Signals.{window, between}
use Rattle.theory.proofs.Plans.{Plan, scan, near, larger_plan, smaller_plan, meaning}
use Rattle.theory.proofs.Lists.{length-tab, get_or-tab, tab_cong}
use Rattle.theory.proofs.Ranks.{pick_agree}
use Rattle.theory.proofs.Differences.{sub_low, sub_high, sub_same, sub_add, pos_add}
use Rattle.theory.proofs.Truth.{Fits}
use Rattle.theory.proofs.Beyond.{whole_row}
use Rattle.rows.specs.Private.{margin}
use Rattle.rows.specs.Rows.{chosen}
use Rattle.rows.specs.Rows.{widened, paired}
use Rattle.rows.specs.Changes.{picked}

-- the row of a plan on the samples s
unfoldable pub row_of : Plan → ℕ → ℕ → List ℕ → List ℕ
row_of e l r s = tab (length s + margin) (λ j. meaning counts e (between l r s) (sub_ℕ j reach))

-- every integer is a difference of counts
difference : (b : ℤ) → (x : ℕ) × (y : ℕ) × (sub_ℕ x y ≡ b)
difference (pos n) = (n, 0, sub_high n 0 zero-le ∙ ap pos (omega arith))
difference (negsuc n) = (0, suc n, sub_low 0 (suc n) (omega arith) ∙ ap negsuc (omega arith))

-- the larger or the smaller of two plans
abbrev pub pair_of : Bool → Plan → Plan → Plan
pair_of true a b = larger_plan a b
pair_of false a b = smaller_plan a b

module _ (l r : ℕ) (s : List ℕ) where
  pub length_row : (e : Plan) → length (row_of e l r s) ≡ length s + margin
  unfolding row_of
  length_row e = length-tab (length s + margin) _

  pub row_at : (e : Plan) (j : ℕ) → j < length s + margin → get_or (row_of e l r s) j 0 ≡ meaning counts e (between l r s) (sub_ℕ j reach)
  unfolding row_of
  row_at e j h = get_or-tab 0 (length s + margin) _ j h

  -- the scan's own row
  pub scan_row : row_of scan l r s ≡ widened reach l r s
  unfolding row_of widened meaning
  scan_row = refl

  -- the larger or the smaller of two rows
  pub paired_row : (high : Bool) (a b : Plan) → paired high (row_of a l r s) (row_of b l r s) ≡ row_of (pair_of high a b) l r s
  unfolding paired row_of meaning chosen
  paired_row true a b =
      rw (length_row b) (tab_cong (length s + margin) _ _ (λ j h. ap₂ (larger counts) (row_at a j h) (row_at b j h)))
  paired_row false a b =
      rw (length_row b) (tab_cong (length s + margin) _ _ (λ j h. ap₂ (smaller counts) (row_at a j h) (row_at b j h)))

  -- the plan at any distance from an index of its row
  around_row : (e : Plan) → Fits window e → (j : ℕ) (b : ℤ)
      → meaning counts e (between l r s) (sub_ℕ j reach +ℤ b) ≡ between l r (row_of e l r s) (pos j +ℤ b)
  unfolding row_of window
  around_row e ok j b =
      let d = difference b in
      let x = d.0 in
      let y = d.1 in
      subst (λ (z : ℤ). meaning counts e (between l r s) (sub_ℕ j reach +ℤ z) ≡ between l r (row_of e l r s) (pos j +ℤ z)) d.2
      (ap (meaning counts e (between l r s)) (sub_add j reach x y)
      ∙ sym (whole_row counts window e ok l r s (length s + margin) (omega arith) (j + x) (reach + y))
      ∙ ap (between l r (row_of e l r s)) (sub_same (j + x + reach) (reach + y) (j + x) y (omega arith) ∙ sym (pos_add j x y)))

  -- a pick around each index of a row is the row of the pick
  pub picked_row : (p : Pick) (bs : List ℤ) → 0 < length bs → (e : Plan) → Fits window e
      → picked p bs l r (row_of e l r s) ≡ row_of (near p bs e) l r s
  unfolding picked row_of meaning
  picked_row p [] h e ok = absurd (omega arith)
  picked_row p (b ∷ bs) h e ok =
      rw (length_row e) (tab_cong (length s + margin) _ _ (λ j k. pick_agree counts p _ _ _ _ b bs (λ c m. sym (around_row e ok j c))))
