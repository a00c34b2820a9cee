-- The line feed at the end of a line is its only one.
-- Assumes nothing.
use Prim.Native.Nat.{ℕ}
use native.Mathlib.Omega.{arith}
use mathlib.Core.Path.{◌≡◌, refl, sym, ap, ◌∙◌}
use mathlib.Core.Bool.{Bool, true, not}
use mathlib.Core.List.{List, [], ◌∷◌, ◌++◌, append_assoc}
use lib.Dec.{eqb}
use borrow.Author.Tests.{ne_eqb}
use Rattle.theory.specs.Lists.{all}
use Rattle.theory.proofs.Tests.{and_left, and_right, and_both}
use Rattle.refusals.specs.Numbers.{noticed}
use Rattle.reports.specs.Counts.{file_counted}
use Rattle.totals.specs.declared.Outcome.{Outcome}
use Rattle.totals.specs.declared.Outcome.TheVariants.{Opened}
use Rattle.totals.specs.declared.Totals.{Totals}
use Rattle.lines.specs.Lines.{line_of, report_line, outcome_line, in_order, totals_line}
use Rattle.lines.proofs.Fields.{Each, each_so, fields, words_of, numbers_of, outcome_fields, totals_fields}
use Rattle.lines.proofs.Inside.{Inside, words_inside, fields_inside}

-- a byte that is no line feed, and bytes with none among them
abbrev pub is_plain : ℕ → Bool
is_plain b = not (eqb b 10)

abbrev pub Plain : List ℕ → Type 0
Plain bytes = all is_plain bytes ≡ true

-- bytes of which the last is a line feed, and no other
pub record OneFeed (line : List ℕ) : Type 0 where
  pub front : List ℕ
  pub ends : line ≡ front ++ (10 ∷ [])
  pub plain : Plain front

plain_both : (a b : List ℕ) → Plain a → Plain b → Plain (a ++ b)
unfolding all
plain_both [] b p q = q
plain_both (x ∷ a) b p q =
    and_both {a = is_plain x} (and_left (is_plain x) (all is_plain a) p) (plain_both a b (and_right (is_plain x) (all is_plain a) p) q)

plain_inside : (bytes : List ℕ) → Each Inside bytes → Plain bytes
unfolding all
plain_inside [] p = refl
plain_inside (b ∷ bytes) p = and_both {a = is_plain b} (rw (ne_eqb b 10 (λ z. omega (arith, p.0)))) (plain_inside bytes p.1)

-- ---- lines

-- of any fields without line feeds
pub one_feed : (fs : List (List ℕ)) → Each Plain fs → OneFeed (line_of fs)
unfolding line_of all
one_feed [] p = record { front = []; ends = refl; plain = refl }
one_feed (field ∷ []) p = record { front = field; ends = refl; plain = p.0 }
one_feed (field ∷ next ∷ fs) p =
    let rest = one_feed (next ∷ fs) p.1 in
    record {
      front = field ++ (32 ∷ rest.front);
      ends = ap (λ (r : List ℕ). field ++ (32 ∷ r)) rest.ends ∙ sym (append_assoc field (32 ∷ rest.front) (10 ∷ []));
      plain = plain_both field (32 ∷ rest.front) p.0 rest.plain;
    }

fields_feed : (words : List (List ℕ)) (numbers : List ℕ) → Each (Each Inside) words → OneFeed (line_of (fields words numbers))
fields_feed words numbers w = one_feed (fields words numbers) (each_so plain_inside (fields words numbers) (fields_inside words numbers w))

-- the line of any outcome ends with its only line feed
pub outcome_feed : (o : Outcome) → OneFeed (outcome_line o)
outcome_feed o = rw (outcome_fields o) (fields_feed (words_of o) (numbers_of o) (words_inside o))

-- the line of any totals does
pub totals_feed : (t : Totals) → OneFeed (totals_line t)
totals_feed t = rw (totals_fields t) (fields_feed [] (in_order t) tt)

-- the line of any file does
pub line_feed : (f : List ℕ) → OneFeed (report_line f)
line_feed f = outcome_feed (Opened (noticed (file_counted f)))
