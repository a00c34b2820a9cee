-- What the passes over whole rows leave: where the lengths fit, their work, and elsewhere what was there.
-- Assumes nothing.
use mathlib.Core.Path.{◌≡◌, refl, sym, ap, ◌∙◌}
use mathlib.Core.Bool.{Bool, true, false, not, cond}
use mathlib.Core.List.{List}
use Prim.Native.Nat.{ℕ, ◌+◌, ◌-◌, ◌*◌, ◌/◌, ◌≤◌, ◌<◌}
use native.Mathlib.Omega.{arith}
use lib.Dec.{leb, eqb}
use lib.ListN.{length, get_or, take, drop, length-drop}
use lib.Seq.{ext_get_or, length-take-le, get_or-take, get_or-drop}
use borrow.Author.Tests.{le-leb, eq-eqb, eqb-true}
use Rattle.theory.proofs.Tests.{same_test}
use Rattle.theory.proofs.Lists.{length-tab, get_or-tab}
use Rattle.rows.specs.Rows.{widened, paired, is_wider}
use Rattle.rows.specs.Private.{part}

-- a test that the code asks by its contrary
pub passed : {b : Bool} → not b ≡ false → b ≡ true
passed {b = true} e = refl
passed {b = false} e = sym e

pub failed : {b : Bool} → not b ≡ true → b ≡ false
failed {b = true} e = sym e
failed {b = false} e = refl

pub part_at : (n from : ℕ) (src : List ℕ) (j : ℕ) → j < n → get_or (part n from src) j 0 ≡ get_or src (j + from) 0
unfolding part
part_at n from src j h = get_or-tab 0 n _ j h

-- a part that is there is a front of what is left behind another
part_is : (n from : ℕ) (src : List ℕ) → from + n ≤ length src → take n (drop from src) ≡ part n from src
unfolding part
part_is n from src h =
    let long : length (take n (drop from src)) ≡ n = length-take-le n (drop from src) (omega (arith, length-drop from src)) in
    ext_get_or 0 _ _ (long ∙ sym (length-tab n _)) (λ i l.
    get_or-take n (drop from src) i 0 (omega (arith, long))
    ∙ get_or-drop from src i 0
    ∙ ap (λ (k : ℕ). get_or src k 0) (omega arith)
    ∙ sym (get_or-tab 0 n _ i (omega (arith, long))))

-- the same as a range of a slice has it
pub part_lent : (n from : ℕ) (src : List ℕ) → from + n ≤ length src → take (from + n - from) (drop from src) ≡ part n from src
part_lent n from src h = let e : from + n - from ≡ n = omega arith in rw e (part_is n from src h)

-- ---- what the passes leave, as their contracts say it

module _ (from : ℕ) (src dst : List ℕ) where
  abbrev pub copied : List ℕ
  copied = cond (leb (from + length dst) (length src)) (take (length dst) (drop from src)) dst

  pub copied_fits : from + length dst ≤ length src → copied ≡ part (length dst) from src
  copied_fits h = rw (le-leb _ _ h) (part_is (length dst) from src h)

abbrev pub put_widened : ℕ → ℕ → ℕ → List ℕ → List ℕ → List ℕ
put_widened k l r s room = cond (is_wider k s room) (widened k l r s) room

abbrev pub put_paired : Bool → List ℕ → List ℕ → List ℕ
put_paired high other row = cond (eqb (length other) (length row)) (paired high other row) row

-- twice k can be taken away where it is not too much
pub wider_test : (k n room : ℕ) → k ≤ room / 2 → eqb (room - 2 * k) n ≡ eqb room (n + (k + k))
wider_test k n room h =
    same_test
    (λ e. eq-eqb room (n + (k + k)) (omega (arith, eqb-true (room - 2 * k) n e)))
    (λ e. eq-eqb (room - 2 * k) n (omega (arith, eqb-true room (n + (k + k)) e)))

pub wider_is : (k : ℕ) (s room : List ℕ) → is_wider k s room ≡ true → length room ≡ length s + (k + k)
unfolding is_wider
wider_is k s room e = eqb-true _ _ e

pub wider_by : (k : ℕ) (s room : List ℕ) → length room ≡ length s + (k + k) → is_wider k s room ≡ true
unfolding is_wider
wider_by k s room e = eq-eqb _ _ e

pub widened_wider : (k l r : ℕ) (s room : List ℕ) → room ≡ widened k l r s → is_wider k s room ≡ true
unfolding widened
widened_wider k l r s room e = wider_by k s room (ap length e ∙ length-tab (length s + (k + k)) _)

pub put_widened_fits : (k l r : ℕ) (s room : List ℕ) → length room ≡ length s + (k + k) → put_widened k l r s room ≡ widened k l r s
put_widened_fits k l r s room e = rw (wider_by k s room e)

pub put_paired_fits : (high : Bool) (other row : List ℕ) → length other ≡ length row → put_paired high other row ≡ paired high other row
put_paired_fits high other row e = rw (eq-eqb _ _ e)
