-- The fields of every line: words, then numbers. A law of lines is proved of lists of fields, and holds of each line by these.
-- Assumes nothing.
use Rattle.std.specs.Prelude.{Ok, Err}
use Prim.Native.Nat.{ℕ, ◌^◌, ◌<◌}
use mathlib.Core.Path.{◌≡◌, refl}
use mathlib.Core.List.{List, [], ◌∷◌, ◌++◌, map}
use Rattle.totals.specs.declared.Outcome.{Outcome}
use Rattle.totals.specs.declared.Outcome.TheVariants.{Unopened, Opened}
use Rattle.totals.specs.declared.Totals.{Totals}
use Rattle.lines.specs.Lines.{decimal, line_of, counts_line, refused_word, refused_line, unopened_word, unopened_line, outcome_line}
use Rattle.lines.specs.Lines.{in_order, totals_line}

-- it holds of each element
abbrev pub Each : {A : Type 0} → (A → Type 0) → List A → Type 0
Each P [] = Unit {0}
Each P (x ∷ xs) = P x × Each P xs

pub each_all : {A : Type 0} {P : A → Type 0} → ((x : A) → P x) → (xs : List A) → Each P xs
each_all h [] = tt
each_all h (x ∷ xs) = (h x, each_all h xs)

pub each_so : {A : Type 0} {P Q : A → Type 0} → ((x : A) → P x → Q x) → (xs : List A) → Each P xs → Each Q xs
each_so h [] each = tt
each_so h (x ∷ xs) each = (h x each.0, each_so h xs each.1)

-- a number of 64 bits
abbrev pub Fits : ℕ → Type 0
Fits n = n < 2 ^ 64

-- ---- words and numbers

abbrev pub fields : List (List ℕ) → List ℕ → List (List ℕ)
fields words numbers = words ++ map decimal numbers

pub each_field_lem : (P : List ℕ → Type 0) (words : List (List ℕ)) (numbers : List ℕ) → Each P words → Each (λ n. P (decimal n)) numbers
    → Each P (fields words numbers)
each_field_lem P [] [] w n = tt
each_field_lem P [] (number ∷ numbers) w n = (n.0, each_field_lem P [] numbers w n.1)
each_field_lem P (word ∷ words) numbers w n = (w.0, each_field_lem P words numbers w.1 n)

-- the words and the numbers of an outcome
abbrev pub words_of : Outcome → List (List ℕ)
words_of Unopened = unopened_word ∷ []
words_of (Opened (Ok c)) = []
words_of (Opened (Err r)) = refused_word ∷ []

abbrev pub numbers_of : Outcome → List ℕ
numbers_of Unopened = []
numbers_of (Opened (Ok c)) = c.samples ∷ c.changed ∷ c.spikes ∷ c.up ∷ c.down ∷ []
numbers_of (Opened (Err r)) = r.number ∷ r.place ∷ []

pub outcome_fields : (o : Outcome) → outcome_line o ≡ line_of (fields (words_of o) (numbers_of o))
unfolding outcome_line unopened_line counts_line refused_line
outcome_fields Unopened = refl
outcome_fields (Opened (Ok c)) = refl
outcome_fields (Opened (Err r)) = refl

pub totals_fields : (t : Totals) → totals_line t ≡ line_of (fields [] (in_order t))
unfolding totals_line
totals_fields t = refl
