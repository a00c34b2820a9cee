-- Demand 2 over what cleaning writes, and preset 10 as the median of three samples.
-- Assumes nothing.
use Rattle.std.specs.Prelude.{Ok}
use Prim.Native.Nat.{ℕ, ◌<◌, min, max}
use native.Mathlib.Omega.{arith}
use mathlib.Core.Path.{◌≡◌, refl, ap, ◌∙◌}
use mathlib.Core.Bool.{true, false, cond}
use mathlib.Core.List.{List, [], ◌∷◌}
use mathlib.Core.Logic.{◌⊎◌, inl, inr}
use lib.Dec.{leb}
use lib.IntN.{pos}
use lib.ListN.{length, get_or, get_or-append}
use borrow.Author.Tests.{leb-true, leb-false}
use Rattle.limits.specs.Limits.{width, top}
use Rattle.theory.specs.Lists.{all, keep, from}
use Rattle.theory.specs.Sets.{has, within, positions}
use Rattle.theory.specs.Orders.{counts, larger, smaller, largest, smallest}
use Rattle.theory.specs.Ranks.{insert, falling, ranked}
use Rattle.theory.specs.Forms.{value, levels}
use Rattle.theory.specs.Signals.{Ends, held, endless, window, offset, seen, cleaned, filtered_at}
use Rattle.theory.proofs.Tests.{which}
use Rattle.theory.proofs.Lists.{length-tab, get_or-tab}
use Rattle.theory.proofs.Canon.{valid_terms, sound, sound_valid}
use Rattle.theory.proofs.Demands.{filtered_value}
use Rattle.refusals.proofs.Checks.{done_fine, and_then_fine}
use Rattle.forms.specs.Check.{form_checked}
use Rattle.forms.proofs.Fine.{fine_form}
use Rattle.presets.specs.Presets.{preset_form}
use Rattle.presets.proofs.Median.{median}
use Rattle.scans.specs.Run.{run_checked, Clean}
use Rattle.claims.specs.Words.{Samples, around, three_at}

module _ (form s : List ℕ) {old new : List ℕ} {n : ℕ} (call : Clean form s old new (Ok n)) where
  clean_fine : run_checked form s (length old) ≡ Ok tt
  clean_fine = (done_fine (run_checked form s (length old)) (length s) n call.answer).0

  -- each sample is cleaned
  clean_at : (x : ℕ) → x < length s → get_or new x 0 ≡ filtered_at held form s x
  unfolding cleaned
  clean_at x l =
      ap (λ (o : List ℕ). get_or o x 0) (rw clean_fine at call.out)
      ∙ get_or-append (cleaned held form s) _ 0 x (rw (length-tab (length s) (filtered_at held form s)) l)
      ∙ get_or-tab 0 (length s) (filtered_at held form s) x l

  -- to the number of levels
  pub clean_levels : (x : ℕ) → x < length s → get_or new x 0 ≡ levels width top form (around s x)
  unfolding filtered_at
  clean_levels x l = clean_at x l

  -- which is the largest of the smallest
  pub clean_largest : Samples s → (x : ℕ) → x < length s → get_or new x 0 ≡ value counts width 0 top form (around s x)
  unfolding run_checked
  clean_largest small x l =
      let ok = fine_form width form (and_then_fine (form_checked width form) _ clean_fine).0 in
      clean_at x l ∙ filtered_value held form s (valid_terms width form ok) small x

-- ---- the median preset

-- the larger and the smaller of two counts, by the operations on numbers
larger_max : (a b : ℕ) → larger counts a b ≡ max a b
unfolding larger
larger_max a b = go (which (leb a b))
  where
    go : (leb a b ≡ true) ⊎ (leb a b ≡ false) → cond (leb a b) b a ≡ max a b
    go (inl e) = rw e (omega (arith, leb-true a b e))
    go (inr e) = rw e (omega (arith, leb-false a b e))

smaller_min : (a b : ℕ) → smaller counts a b ≡ min a b
unfolding smaller
smaller_min a b = go (which (leb a b))
  where
    go : (leb a b ≡ true) ⊎ (leb a b ≡ false) → cond (leb a b) a b ≡ min a b
    go (inl e) = rw e (omega (arith, leb-true a b e))
    go (inr e) = rw e (omega (arith, leb-false a b e))

-- the terms of preset 10
abbrev median_terms : List ℕ
median_terms = 24 ∷ 40 ∷ 48 ∷ []

sound_median : sound width median_terms ≡ true
unfolding sound all within
sound_median = refl

max_joins : (x y z : ℕ) → max x (max y z) ≡ max (max x y) z
max_joins x y z = omega arith

max_of_mins : (a b c : ℕ) → max (min a b) (min a c) ≡ min a (max b c)
max_of_mins a b c = omega arith

-- of three counts, the largest of the smaller of each two is the second largest
middle : (a b c : ℕ) → larger counts (smaller counts a b) (larger counts (smaller counts a c) (smaller counts b c))
    ≡ larger counts (smaller counts a (larger counts b c)) (smaller counts b c)
middle a b c =
    simp (larger_max, smaller_min)
    (max_joins (min a b) (min a c) (min b c) ∙ ap (λ (m : ℕ). max m (min b c)) (max_of_mins a b c))

second_largest : (n : ℕ → ℕ) → value counts width 0 top median_terms n ≡ ranked counts 2 0 (λ v. v) (n 3 ∷ n 4 ∷ n 5 ∷ [])
unfolding value largest smallest positions keep from has ranked falling insert
second_largest n = middle (n 3) (n 4) (n 5)

pub median_preset : (ends : Ends) (s : List ℕ) → Samples s → (x : ℕ)
    → filtered_at ends (preset_form 10) s x ≡ ranked counts 2 0 (λ v. v) (three_at ends s x)
unfolding seen offset window
median_preset ends s small x =
    ap (λ (F : List ℕ). filtered_at ends F s x) median
    ∙ filtered_value ends median_terms s (valid_terms width median_terms (sound_valid width median_terms sound_median)) small x
    ∙ second_largest (seen window (endless 0 ends s) (pos x))
