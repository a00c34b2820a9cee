-- Every byte of a field lies above the space, so it is neither a space nor a line feed.
-- Assumes nothing.
use Rattle.std.specs.Prelude.{Ok, Err}
use Prim.Native.Nat.{ℕ, zero, suc, ◌/◌, ◌%◌, ◌<◌}
use native.Mathlib.Omega.{arith}
use mathlib.Core.Path.{◌≡◌}
use mathlib.Core.Bool.{true, false}
use mathlib.Core.List.{List, [], ◌∷◌, ◌++◌}
use mathlib.Core.Logic.{◌⊎◌, inl, inr}
use lib.Dec.{ltb}
use Rattle.io.specs.Digits.{hex_digit_ascii, last_digits}
use Rattle.theory.proofs.Tests.{which}
use Rattle.totals.specs.declared.Outcome.{Outcome}
use Rattle.totals.specs.declared.Outcome.TheVariants.{Unopened, Opened}
use Rattle.lines.specs.Lines.{digits_of, decimal, refused_word, unopened_word}
use Rattle.lines.proofs.Fields.{Each, each_all, fields, each_field_lem, words_of}

abbrev pub Inside : ℕ → Type 0
Inside b = 32 < b

glyph_inside : (d : ℕ) → Inside (hex_digit_ascii d)
glyph_inside d = go (which (ltb d 10))
  where
    go : (ltb d 10 ≡ true) ⊎ (ltb d 10 ≡ false) → Inside (hex_digit_ascii d)
    go (inl e) = rw e (omega arith)
    go (inr e) = rw e (omega arith)

each_snoc : (a : List ℕ) (b : ℕ) → Each Inside a → Inside b → Each Inside (a ++ (b ∷ []))
each_snoc [] b p q = (q, tt)
each_snoc (c ∷ a) b p q = (p.0, each_snoc a b p.1 q)

digits_inside : (k n : ℕ) → Each Inside (last_digits 10 k n)
digits_inside zero n = tt
digits_inside (suc k) n = each_snoc (last_digits 10 k (n / 10)) (hex_digit_ascii (n % 10)) (digits_inside k (n / 10)) (glyph_inside (n % 10))

decimal_inside : (n : ℕ) → Each Inside (decimal n)
unfolding decimal
decimal_inside n = digits_inside (digits_of n) n

pub words_inside : (o : Outcome) → Each (Each Inside) (words_of o)
unfolding unopened_word refused_word
words_inside Unopened = omega arith
words_inside (Opened (Ok c)) = tt
words_inside (Opened (Err r)) = omega arith

pub fields_inside : (words : List (List ℕ)) (numbers : List ℕ) → Each (Each Inside) words → Each (Each Inside) (fields words numbers)
fields_inside words numbers w = each_field_lem (Each Inside) words numbers w (each_all decimal_inside numbers)
