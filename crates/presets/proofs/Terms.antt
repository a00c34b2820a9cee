-- A preset's form has its 8-bit table as its function. Its terms are those of the table on three samples, moved to where the three stand;
-- so they are at most three.
-- Assumes nothing.
use mathlib.Core.Path.{◌≡◌, refl, sym, ap, ap₂, ◌∙◌}
use mathlib.Core.Bool.{Bool, true, false, ◌||◌}
use mathlib.Core.List.{List, [], ◌∷◌, map, Memᴰ}
use Prim.Native.Nat.{ℕ, ◌≤◌, ◌<◌}
use native.Mathlib.Omega.{arith}
use lib.Dec.{leb}
use lib.ListN.{length, get_or, length-map}
use borrow.Author.Tests.{leb-true, lt-leb}
use Rattle.limits.specs.Limits.{width, patterns, presets}
use Rattle.theory.specs.Lists.{all, any, keep, from}
use Rattle.theory.specs.Sets.{has, within}
use Rattle.theory.specs.Forms.{holds, Valid, Positive, minimal, form_of}
use Rattle.theory.proofs.Lists.{all_at, map_from, index_mem}
use Rattle.theory.proofs.Forms.{Terms}
use Rattle.theory.proofs.Canon.{valid_terms, form_valid, form_cong, form_of_holds, holds_form}
use Rattle.std.specs.Prelude.{Result, Ok}
use Rattle.refusals.specs.declared.Refusal.{Refusal}
use Rattle.refusals.proofs.Shared.{fine_room}
use Rattle.presets.specs.Presets.{three, preset_tables, near_in, on_window, preset_form, preset_checked, Preset}
use Rattle.presets.proofs.Nearest.{near_lt, moved, near_moved, within_moved}
use Rattle.presets.proofs.Rule.{entry_positive}
use Rattle.presets.proofs.Given.{preset_positive}

-- ---- the form of an 8-bit table on the window

moved_valid : (F : List ℕ) → Valid three F → Valid width (map moved F)
moved_valid [] ok = tt
moved_valid (m ∷ F) ok = (omega (arith, ok.0), later, moved_valid F ok.2)
  where
    later : (k : ℕ) → Memᴰ k (map moved F) → (moved m < k) × (within (moved m) k ≡ false)
    later =
        map_from (λ k. (moved m < k) × (within (moved m) k ≡ false)) moved F
        (λ u i. (
          omega (arith, (ok.1 u i).0),
          within_moved m (moved u) ok.0 ∙ ap (within m) (near_moved u (valid_terms three F ok.2 u i)) ∙ (ok.1 u i).1,
        ))

moved_holds : (F : List ℕ) (v : ℕ) → Terms three F → holds (map moved F) v ≡ holds F (near_in v)
unfolding holds any
moved_holds [] v ok = refl
moved_holds (m ∷ F) v ok =
    ap₂ (λ (a b : Bool). a || b) (within_moved m v (ok m (Memᴰ.head refl))) (moved_holds F v (λ u i. ok u (Memᴰ.tail i)))

moved_form : (t : ℕ) → Positive three (has t) → form_of width (on_window t) ≡ map moved (form_of three (has t))
unfolding on_window
moved_form t pos =
    let F = form_of three (has t) in
    let ok = form_valid three (has t) in
    form_cong width _ (holds (map moved F))
    (λ v l. sym (moved_holds F v (valid_terms three F ok) ∙ holds_form three (has t) pos (near_in v) (near_lt v)))
    ∙ form_of_holds width (map moved F) (moved_valid F ok)

-- ---- the twenty presets

-- the function of a preset's form is its table, on the three samples
pub preset_holds : (i : ℕ) → i < presets → (v : ℕ) → v < patterns → holds (preset_form i) v ≡ has (get_or preset_tables i 0) (near_in v)
unfolding preset_form on_window
preset_holds i h v l = holds_form width (on_window (get_or preset_tables i 0)) (preset_positive i h) v l

-- its terms are those of the table, moved
pub preset_moved : (i : ℕ) → i < presets → preset_form i ≡ map moved (form_of three (has (get_or preset_tables i 0)))
unfolding preset_form
preset_moved i l = moved_form (get_or preset_tables i 0) (entry_positive i l)

-- the test, over all of them
few : all (λ t. leb (length (form_of three (has t))) 3) preset_tables ≡ true
unfolding all any keep from has within minimal form_of preset_tables
few = refl

-- a preset has at most three terms
pub preset_few : (i : ℕ) → i < presets → length (preset_form i) ≤ 3
unfolding preset_tables
preset_few i l =
    let F = form_of three (has (get_or preset_tables i 0)) in
    let small = leb-true (length F) 3 (all_at (λ t. leb (length (form_of three (has t))) 3) few (index_mem 0 preset_tables i l)) in
    omega (arith, ap length (preset_moved i l), length-map F moved)

-- so three elements lent are always enough
pub three_enough : {i : ℕ} {old new : List ℕ} {r : Result ℕ Refusal} → i < presets → 3 ≤ length old → Preset i old new r → r ≡ Ok (length (preset_form i))
unfolding preset_checked
three_enough {i} {old} l room p =
    rw (lt-leb presets i (omega arith), fine_room (length (preset_form i)) (length old) (omega (arith, preset_few i l))) at p.answer
