-- Demand 3 for the base's scans: the form of a plan filters every scan as the plan means, and two plans have one form exactly where they
-- agree on every scan. And demand 2's count of levels as the largest of the smallest. Each by either ends rule.
-- Assumes nothing.
use mathlib.Core.Path.{◌≡◌, ◌∙◌}
use mathlib.Core.List.{List}
use Prim.Native.Nat.{ℕ, ◌≤◌, ◌<◌, zero-le}
use native.Mathlib.Omega.{arith}
use lib.IntN.{ℤ, pos, ◌+ℤ◌}
use lib.ListN.{length, get_or}
use Rattle.limits.specs.Limits.{reach, width, top}
use Rattle.theory.specs.Orders.{counts}
use Rattle.theory.specs.Forms.{value, levels, form_of}
use Rattle.theory.specs.Signals.{Ends, endless, Scan, window, wide, offset, seen, filtered_at}
use Rattle.theory.proofs.Plans.{Plan, meaning, truth}
use Rattle.theory.proofs.Lists.{tally-le}
use Rattle.theory.proofs.Orders.{counts_lawful, counts_strict}
use Rattle.theory.proofs.Forms.{Terms, levels_value}
use Rattle.theory.proofs.Canon.{form_valid, valid_terms}
use Rattle.theory.proofs.Signals.{endless_from, window_fair}
use Rattle.theory.proofs.Truth.{Fits, plan_form}
use Rattle.theory.proofs.Scans.{showing, length-showing, showing-le, same_meaning, same_forms}

-- every sample is 0 to 65,535
abbrev pub Samples : List ℕ → Type 0
Samples s = (i : ℕ) → get_or s i 0 ≤ top

module _ (ends : Ends) where
  -- so is every value of the endless signal
  pub endless_small : (s : List ℕ) → Samples s → (y : ℤ) → endless 0 ends s y ≤ top
  endless_small s h = endless_from 0 (λ v. v ≤ top) ends s zero-le h

  -- the count of levels is the largest, over the terms, of the smallest sample that the term reaches
  pub filtered_value : (F s : List ℕ) → Terms width F → Samples s → (x : ℕ)
      → filtered_at ends F s x ≡ value counts width 0 top F (seen window (endless 0 ends s) (pos x))
  unfolding filtered_at seen
  filtered_value F s ok h x = levels_value width top F _ ok (λ i. endless_small s h (pos x +ℤ offset window i))

  -- every filtered value is 0 to 65,535
  pub filtered_le : (F s : List ℕ) (x : ℕ) → filtered_at ends F s x ≤ top
  unfolding filtered_at levels
  filtered_le F s x = tally-le top _

  pub plan_filter : (e : Plan) → Fits window e → (s : List ℕ) → Samples s → (x : ℕ)
      → filtered_at ends (form_of width (truth window e)) s x ≡ meaning counts e (endless 0 ends s) (pos x)
  unfolding window wide
  plan_filter e ok s h x =
      filtered_value (form_of width (truth window e)) s (valid_terms width _ (form_valid width (truth window e))) h x
      ∙ plan_form window window_fair counts_lawful {P = λ v. v ≤ top} (λ a b p q. counts_strict a b) e ok 0 top (omega arith) (omega arith)
      (endless 0 ends s) (endless_small s h) (pos x)

  -- ---- two plans

  -- they give the same at every sample of every scan
  abbrev pub Agree : Plan → Plan → Type 0
  Agree e e' =
      (s : List ℕ) → Scan s → (x : ℕ) → x < length s → meaning counts e (endless 0 ends s) (pos x) ≡ meaning counts e' (endless 0 ends s)
      (pos x)

  module _ (e e' : Plan) (ok : Fits window e) (ok' : Fits window e') where
    pub same_form_agree : form_of width (truth window e) ≡ form_of width (truth window e') → Agree e e'
    unfolding window wide
    same_form_agree q s h x l =
        same_meaning window window_fair e e' ok ok' q counts_lawful {P = λ v. v ≤ top} (λ a b p q. counts_strict a b)
        (endless 0 ends s) (endless_small s h.small) (pos x)

    pub agree_same_form : Agree e e' → form_of width (truth window e) ≡ form_of width (truth window e')
    unfolding window wide
    agree_same_form f =
        same_forms window window_fair ends 1 (omega arith) e e' ok ok'
        (λ v b. f (showing window window_fair 1 v) (is_scan v) reach (rw (length-showing window window_fair 1 v) (omega arith)))
      where
        is_scan : (v : ℕ) → Scan (showing window window_fair 1 v)
        is_scan v = record {
          nonempty = rw (length-showing window window_fair 1 v) (omega arith);
          short = rw (length-showing window window_fair 1 v) (omega arith);
          small = λ i. omega (arith, showing-le window window_fair 1 v i);
        }
