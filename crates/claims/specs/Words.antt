-- The words of the claims that no contract cites.
use Rattle.files.specs.Files.{sizes}
use Rattle.std.specs.Prelude.{Ok}
use Rattle.std.specs.Prelude.{ℕ, ◌≤◌, ◌<◌, ◌≡◌, Bool, pos, negsuc, ◌+ℤ◌, length, get_or}
use mathlib.Core.List.{List, [], ◌∷◌, map, flat_map}
use Rattle.limits.specs.Limits.{most_terms, top}
use Rattle.theory.specs.Lists.{keep}
use Rattle.theory.specs.Signals.{Ends, held, endless, window, seen, Scan}
use Rattle.tables.specs.Tables.{TableToForm}
use Rattle.presets.specs.Presets.{Preset}
use Rattle.recipes.specs.Meaning.{value_at}
use Rattle.compiler.specs.Compile.{Compile}
use Rattle.files.specs.Files.{Read}
use Rattle.totals.specs.declared.Outcome.{Outcome}
use Rattle.lines.specs.Lines.{outcome_line}

-- every sample is 0 to 65,535
abbrev pub Samples : List ℕ → Type 0
Samples s = (i : ℕ) → get_or s i 0 ≤ top

-- what the window sees at sample x of a scan, by position, the ends held
abbrev pub around : List ℕ → ℕ → ℕ → ℕ
around s x = seen window (endless 0 held s) (pos x)

-- the samples at the offsets -1, 0 and 1 from x, under an ends rule
abbrev pub three_at : Ends → List ℕ → ℕ → List ℕ
three_at ends s x = map (λ d. endless 0 ends s (pos x +ℤ d)) (negsuc 0 ∷ pos 0 ∷ pos 1 ∷ [])

-- two recipes give the same at every sample of every scan, under an ends rule
abbrev pub Agree : Ends → List ℕ → List ℕ → Type 0
Agree ends r r' = (s : List ℕ) → Scan s → (x : ℕ) → x < length s → value_at ends r s x ≡ value_at ends r' s x

-- a call wrote n terms to the start of a slice. The two calls that may give any form are asked for at most 126 terms: no form has more, and
-- that is request 8 of document 02
pub data FormWritten (terms : List ℕ) (n : ℕ) : Type 0 where
  by_compile : {r old : List ℕ} → Compile r old terms (Ok n) → n ≤ most_terms → FormWritten terms n
  by_table_to_form : (tb : List ℕ) {old : List ℕ} → TableToForm tb old terms (Ok n) → n ≤ most_terms → FormWritten terms n
  by_preset : (i : ℕ) {old : List ℕ} → Preset i old terms (Ok n) → FormWritten terms n
  by_read : {f samples samples' old : List ℕ} {m : ℕ} → Read f samples samples' old terms (Ok (sizes m n)) → FormWritten terms n

-- how many of some values pass a test
unfoldable pub passing : {X : Type 0} → (X → Bool) → List X → ℕ
passing p xs = length (keep p xs)

-- a night's lines, one for each file, in the list's order
abbrev pub lines_above : List Outcome → List ℕ
lines_above outcomes = flat_map outcome_line outcomes
