-- Forms: lists of terms, a term being a set of the window's w positions. The Boolean function, the filter's value,
-- and which lists are forms.
use Rattle.std.specs.Prelude.{◌≡◌, Bool, true, false, not, ◌&&◌, ◌||◌, ℕ, ◌-◌, ◌^◌, ◌<◌, leb, ltb, get_or}
use mathlib.Core.List.{List, [], ◌∷◌, Memᴰ}
use Rattle.theory.specs.Lists.{any, keep, from, any_below, tally}
use Rattle.theory.specs.Sets.{gather, within, positions}
use Rattle.theory.specs.Orders.{Order, largest, smallest, counts}

-- ---- the function and the filter

-- the Boolean function of a form: the pattern contains some term
unfoldable pub holds : List ℕ → ℕ → Bool
holds form v = any (λ m. within m v) form

module _ {A : Type 0} (O : Order A) (w : ℕ) where
  -- cut at level t: the pattern of the positions whose value is at least t
  unfoldable pub cut : (ℕ → A) → A → ℕ
  cut n t = gather w (λ i. O t (n i))

  -- the largest, over the terms, of the smallest value that the term reaches; lo for no term, hi for the term with no position
  unfoldable pub value : A → A → List ℕ → (ℕ → A) → A
  value lo hi form n = largest O lo (λ m. smallest O hi n (positions w m)) form

-- the number of levels 1 .. top whose cut makes the form's function 1
unfoldable pub levels : ℕ → ℕ → List ℕ → (ℕ → ℕ) → ℕ
levels w top form n = tally top (λ t. holds form (cut counts w n t))

-- ---- which lists are forms

-- a form: each term has w positions, is below each later one, and lies within none of them
abbrev pub Valid : ℕ → List ℕ → Type 0
Valid w [] = Unit {0}
Valid w (m ∷ f) = (m < 2 ^ w) × ((k : ℕ) → Memᴰ k f → (m < k) × (within m k ≡ false)) × Valid w f

-- the term at i contains an earlier one
unfoldable pub contains_earlier : List ℕ → ℕ → Bool
contains_earlier ts i = any_below (λ j. within (get_or ts j 0) (get_or ts i 0)) i

-- what 7 refuses: the term at i is no set of w positions, is not above its predecessor, or contains an earlier one
unfoldable pub is_bad : ℕ → List ℕ → ℕ → Bool
is_bad w ts i = leb (2 ^ w) (get_or ts i 0) || (ltb 0 i && leb (get_or ts i 0) (get_or ts (i - 1) 0)) || contains_earlier ts i

-- ---- the form of a function

-- a pattern with more positions never turns 1 into 0
abbrev pub Positive : ℕ → (ℕ → Bool) → Type 0
Positive w f = (u v : ℕ) → v < 2 ^ w → within u v ≡ true → f u ≡ true → f v ≡ true

-- f is 1 on v, and 0 on each other pattern within v
unfoldable pub minimal : (ℕ → Bool) → ℕ → Bool
minimal f v = f v && not (any (λ u. f u && within u v) (from 0 v))

-- the form of f: its minimal patterns, ascending
unfoldable pub form_of : ℕ → (ℕ → Bool) → List ℕ
form_of w f = keep (minimal f) (from 0 (2 ^ w))
