-- The twenty filters of window three: their tables, the one rule that gives each its terms, and what the call refuses, answers and leaves.
use Rattle.std.specs.Prelude.{ℕ, ◌^◌, Bool, List, [], ◌∷◌, leb, length, get_or}
use Rattle.std.proofs.Math.IntN.{sub_ℕ}
use Rattle.limits.specs.Limits.{width, presets}
use Rattle.theory.specs.Sets.{has, gather}
use Rattle.theory.specs.Forms.{form_of}
use Rattle.theory.specs.Signals.{window, spread}
use Rattle.std.specs.Prelude.{Result}
use Rattle.refusals.specs.declared.Refusal.{Refusal}
use Rattle.refusals.specs.declared.Refusal.TheVariants.{PresetNumber}
use Rattle.refusals.specs.Refusals.{Checked, refuse_if, and_then}
use Rattle.refusals.specs.Shared.{room_checked}
use Rattle.refusals.specs.Promise.{Gives}

-- window three: the samples x1, x2, x3
abbrev pub three : ℕ
three = 3

-- their patterns
abbrev pub three_patterns : ℕ
three_patterns = 2 ^ three

-- the 8-bit truth tables over x1, x2, x3 (x1 is the lowest bit), ascending
unfoldable pub preset_tables : List ℕ
preset_tables =
    0 ∷ 128 ∷ 136 ∷ 160 ∷ 168 ∷ 170 ∷ 192 ∷ 200 ∷ 204 ∷ 224 ∷ 232 ∷ 234 ∷ 236 ∷ 238 ∷ 240 ∷ 248 ∷ 250 ∷ 252 ∷ 254 ∷ 255 ∷ []

-- the pattern of x1, x2, x3 in a pattern of the window: they are the offsets -1, 0, 1
unfoldable pub near_in : ℕ → ℕ
near_in v = gather three (λ i. spread window v (sub_ℕ i 1))

-- the function of an 8-bit table on the window's patterns
unfoldable pub on_window : ℕ → ℕ → Bool
on_window t v = has t (near_in v)

-- preset i is the form of the i-th table
unfoldable pub preset_form : ℕ → List ℕ
preset_form i = form_of width (on_window (get_or preset_tables i 0))

-- 14, 6
unfoldable pub preset_checked : ℕ → ℕ → Checked
preset_checked i lent = and_then (refuse_if (leb presets i) (PresetNumber i)) (room_checked (length (preset_form i)) lent)

-- the number of terms, and the form from the start of the slice lent
abbrev pub Preset : ℕ → List ℕ → List ℕ → Result ℕ Refusal → Type 0
Preset i old new r = Gives (preset_checked i) (length (preset_form i)) (preset_form i) old new r
