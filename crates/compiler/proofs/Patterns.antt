-- A plan on a scan that shows patterns: in the middle of a pattern it gives its Boolean function there, whatever stands beside it.
-- Assumes nothing.
use Prim.Native.Nat.{ℕ, suc, ◌+◌, ◌-◌, ◌*◌, ◌/◌, ◌%◌, ◌^◌, ◌≤◌, ◌<◌}
use native.Mathlib.Omega.{arith}
use mathlib.Core.Path.{◌≡◌, refl, ap, ap₂, ◌∙◌}
use mathlib.Core.Bool.{Bool, true, false}
use mathlib.Core.List.{List}
use lib.Arith.{digits_div, digits_mod, digits_lt}
use lib.Dec.{leb}
use lib.IntN.{pos}
use lib.ListN.{length, get_or}
use Rattle.theory.specs.Lists.{bit, tab}
use Rattle.theory.specs.Sets.{has}
use Rattle.theory.specs.Orders.{counts}
use Rattle.theory.specs.Signals.{Ends, endless, Window, wide, seen}
use Rattle.theory.proofs.Plans.{Plan, meaning, truth}
use Rattle.theory.proofs.Lists.{length-tab, get_or-tab}
use Rattle.theory.proofs.Differences.{sub_high}
use Rattle.theory.proofs.Orders.{counts_lawful}
use Rattle.theory.proofs.Signals.{Fair, inner, seen_at}
use Rattle.theory.proofs.Forms.{cut_is}
use Rattle.theory.proofs.Truth.{Fits, plan_cut}

one_bit : (b : Bool) → leb 1 (bit b) ≡ b
unfolding bit
one_bit true = refl
one_bit false = refl

module _ (W : Window) (fair : Fair W) (first n : ℕ) where
  -- n samples that show the patterns from the first on: a column of the window to each
  unfoldable pub showing_all : List ℕ
  showing_all = tab n (λ j. bit (has (first + j / wide W) (fair.position (j % wide W))))

  length_all : length showing_all ≡ n
  unfolding showing_all
  length_all = length-tab n _

  module _ (ends : Ends) (v : ℕ) (whole : suc v * wide W ≤ n) where
    -- column k of the v-th pattern
    column_shown : (k : ℕ) → k < wide W → get_or showing_all (v * wide W + k) 0 ≡ bit (has (first + v) (fair.position k))
    unfolding showing_all
    column_shown k l =
        get_or-tab 0 n _ (v * wide W + k) (omega (arith, digits_lt {q = v} {m = suc v} (omega arith) l))
        ∙ ap₂ (λ (q r : ℕ). bit (has (first + q) (fair.position r))) (digits_div v l) (digits_mod v l)

    -- around its middle, the window sees it and nothing else
    middle_seen : (i : ℕ) → i < wide W → seen W (endless 0 ends showing_all) (pos (v * wide W + W.far)) i ≡ bit (has (first + v) i)
    middle_seen i l =
        let k = W.column i in
        let c : k < wide W = fair.column_lt i l in
        let at : v * wide W + W.far + W.column i - W.far ≡ v * wide W + W.column i = omega arith in
        seen_at W (endless 0 ends showing_all) (v * wide W + W.far) i
        ∙ ap (endless 0 ends showing_all) (sub_high (v * wide W + W.far + k) W.far (omega arith) ∙ ap pos at)
        ∙ inner 0 ends showing_all (v * wide W + k) (omega (arith, length_all, digits_lt {q = v} {m = suc v} (omega arith) c))
        ∙ column_shown k c
        ∙ ap (λ (j : ℕ). bit (has (first + v) j)) (fair.position_column i l)

    -- so a plan gives its Boolean function there
    pub middle_truth : (e : Plan) → Fits W e → first + v < 2 ^ wide W
        → leb 1 (meaning counts e (endless 0 ends showing_all) (pos (v * wide W + W.far))) ≡ truth W e (first + v)
    middle_truth e ok b =
        plan_cut W fair counts_lawful e ok (endless 0 ends showing_all) (pos (v * wide W + W.far)) 1
        ∙ ap (truth W e) (cut_is counts (wide W) _ 1 (first + v) b (λ i l. ap (leb 1) (middle_seen i l) ∙ one_bit (has (first + v) i)))
