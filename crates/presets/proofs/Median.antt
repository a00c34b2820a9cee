-- Preset 10 is the median over the offsets -1, 0, 1. Computed of the definitions.
-- Assumes nothing.
use mathlib.Core.Path.{◌≡◌, refl, ◌∙◌}
use mathlib.Core.List.{[], ◌∷◌}
use native.Mathlib.Omega.{arith}
use Rattle.theory.specs.Lists.{any, keep, from}
use Rattle.theory.specs.Sets.{has, within}
use Rattle.theory.specs.Forms.{minimal, form_of}
use Rattle.presets.specs.Presets.{preset_tables, preset_form}
use Rattle.presets.proofs.Terms.{preset_moved}

pub median : preset_form 10 ≡ 24 ∷ 40 ∷ 48 ∷ []
unfolding preset_tables form_of minimal any keep from has within
median = preset_moved 10 (omega arith) ∙ refl
