-- A night's lines tell what became of each file, so the line below them has the totals of the lines above it.
-- Assumes nothing.
use Rattle.std.specs.Prelude.{Ok, Err}
use Rattle.refusals.specs.Numbers.{notice}
use Prim.Native.Nat.{ℕ, zero, suc, ◌/◌, ◌%◌, ◌^◌, ◌≤◌, ◌<◌}
use native.Mathlib.Nat.{pow-suc, mod-lt, div-add-mod', div-lt_iff_lt-mul}
use native.Mathlib.Omega.{arith}
use mathlib.Core.Path.{◌≡◌, refl, sym, ap, ◌∙◌}
use mathlib.Core.Bool.{Bool, true, false}
use mathlib.Core.List.{List, [], ◌∷◌, ◌++◌, append_assoc, head-eq_of_cons-eq, tail-eq_of_cons-eq, flat_map}
use mathlib.Core.Logic.{◌⊎◌, inl, inr}
use lib.Dec.{ltb}
use lib.ListN.{length, get_or, take, length-append}
use lib.Seq.{take_at, get_or_at}
use borrow.Author.Tests.{ltb-true, ltb-false, lt-ltb}
use Rattle.io.specs.Digits.{hex_digit_ascii, last_digits}
use Rattle.limits.specs.Limits.{most_names}
use Rattle.theory.specs.Lists.{first}
use Rattle.theory.proofs.Tests.{which}
use Rattle.reports.proofs.Sums.{first_le, first_there}
use Rattle.totals.specs.declared.Outcome.{Outcome}
use Rattle.totals.specs.declared.Outcome.TheVariants.{Unopened, Opened}
use Rattle.totals.specs.Totals.{totals_of}
use Rattle.totals.specs.Nights.{OfFiles, running, files_in}
use Rattle.totals.proofs.Nights.{every_file_counted, night_exact}
use Rattle.lines.specs.Lines.{digits_of, decimal, line_of, outcome_line, totals_line}
use Rattle.lines.proofs.Decimals.{length_digits, length-decimal, lt_power}
use Rattle.lines.proofs.Fields.{Each, fields, words_of, numbers_of, outcome_fields}
use Rattle.lines.proofs.Inside.{Inside, words_inside, fields_inside}
use Rattle.lines.proofs.Feeds.{outcome_feed}
use Rattle.claims.specs.Words.{lines_above}

-- ---- a number is told by its digits

-- its digits hold it
held : (n : ℕ) → n < 10 ^ digits_of n
unfolding digits_of
held n = go (which (ltb (first p n) n))
  where
    p : ℕ → Bool
    p k = ltb n (10 ^ suc k)

    go : (ltb (first p n) n ≡ true) ⊎ (ltb (first p n) n ≡ false) → n < 10 ^ suc (first p n)
    go (inl e) = ltb-true n (10 ^ suc (first p n)) (first_there p n (ltb-true (first p n) n e))
    go (inr e) =
        let whole : first p n ≡ n = omega (arith, first_le p n, ltb-false (first p n) n e) in
        rw whole (omega (arith, pow-suc 10 n, lt_power n))

glyph_told : (a b : ℕ) → a < 10 → b < 10 → hex_digit_ascii a ≡ hex_digit_ascii b → a ≡ b
glyph_told a b h k e = omega (arith, rw (lt-ltb a 10 h, lt-ltb b 10 k) at e)

digits_told : (k m n : ℕ) → m < 10 ^ k → n < 10 ^ k → last_digits 10 k m ≡ last_digits 10 k n → m ≡ n
digits_told zero m n h l e = omega arith
digits_told (suc k) m n h l e =
    let a = last_digits 10 k (m / 10) in
    let b = last_digits 10 k (n / 10) in
    let i = length_digits 10 k (m / 10) in
    let j = length_digits 10 k (n / 10) in
    let front = sym (take_at a _ k i) ∙ ap (take k) e ∙ take_at b _ k j in
    let last = sym (get_or_at a (hex_digit_ascii (m % 10)) [] 0 k i) ∙ ap (λ (l : List ℕ). get_or l k 0) e ∙ get_or_at b (hex_digit_ascii (n % 10)) [] 0 k j in
    let ends = glyph_told (m % 10) (n % 10) (mod-lt m (omega arith)) (mod-lt n (omega arith)) last in
    omega (arith, digits_told k (m / 10) (n / 10) (shorter m h) (shorter n l) front, ends, div-add-mod' m 10, div-add-mod' n 10)
  where
    shorter : (a : ℕ) → a < 10 ^ suc k → a / 10 < 10 ^ k
    shorter a b = (div-lt_iff_lt-mul {k = 10} {x = a} {y = 10 ^ k} (omega arith)).1 (omega (arith, pow-suc 10 k))

decimal_told : {m n : ℕ} → decimal m ≡ decimal n → m ≡ n
unfolding decimal
decimal_told {m} {n} e =
    let same : digits_of n ≡ digits_of m = omega (arith, length-decimal m, length-decimal n, ap length e) in
    digits_told (digits_of m) m n (held m) (rw same at (held n)) (e ∙ ap (λ (k : ℕ). last_digits 10 k n) same)

-- ---- a line is told by its fields

-- bytes of a field up to a byte that is none
cut : (a b : List ℕ) (x y : ℕ) (r s : List ℕ) → Each Inside a → Each Inside b → x ≤ 32 → y ≤ 32 → a ++ (x ∷ r) ≡ b ++ (y ∷ s)
    → (a ≡ b) × (x ≡ y) × (r ≡ s)
cut [] [] x y r s p q h k e = (refl, head-eq_of_cons-eq e, tail-eq_of_cons-eq e)
cut [] (d ∷ b) x y r s p q h k e = absurd (omega (arith, head-eq_of_cons-eq e, q.0))
cut (c ∷ a) [] x y r s p q h k e = absurd (omega (arith, head-eq_of_cons-eq e, p.0))
cut (c ∷ a) (d ∷ b) x y r s p q h k e =
    let rest = cut a b x y r s p.1 q.1 h k (tail-eq_of_cons-eq e) in
    (λ i. head-eq_of_cons-eq e i ∷ rest.0 i, rest.1, rest.2)

fields_told : (f : List ℕ) (fs : List (List ℕ)) (g : List ℕ) (gs : List (List ℕ)) (r s : List ℕ) → Each (Each Inside) (f ∷ fs)
    → Each (Each Inside) (g ∷ gs) → line_of (f ∷ fs) ++ r ≡ line_of (g ∷ gs) ++ s → (◌≡◌ {A = List (List ℕ)} (f ∷ fs) (g ∷ gs)) × (r ≡ s)
unfolding line_of
fields_told f [] g [] r s p q e =
    let c = cut f g 10 10 r s p.0 q.0 (omega arith) (omega arith) (sym (append_assoc f (10 ∷ []) r) ∙ e ∙ append_assoc g (10 ∷ []) s) in
    (ap (λ (h : List ℕ). h ∷ []) c.0, c.2)
fields_told f [] g (n ∷ gs) r s p q e =
    let c = cut f g 10 32 r (line_of (n ∷ gs) ++ s) p.0 q.0 (omega arith) (omega arith)
    (sym (append_assoc f (10 ∷ []) r) ∙ e ∙ append_assoc g (32 ∷ line_of (n ∷ gs)) s) in
    absurd (omega (arith, c.1))
fields_told f (m ∷ fs) g [] r s p q e =
    let c = cut f g 32 10 (line_of (m ∷ fs) ++ r) s p.0 q.0 (omega arith) (omega arith)
    (sym (append_assoc f (32 ∷ line_of (m ∷ fs)) r) ∙ e ∙ append_assoc g (10 ∷ []) s) in
    absurd (omega (arith, c.1))
fields_told f (m ∷ fs) g (n ∷ gs) r s p q e =
    let c = cut f g 32 32 (line_of (m ∷ fs) ++ r) (line_of (n ∷ gs) ++ s) p.0 q.0 (omega arith) (omega arith)
    (sym (append_assoc f (32 ∷ line_of (m ∷ fs)) r) ∙ e ∙ append_assoc g (32 ∷ line_of (n ∷ gs)) s) in
    let rest = fields_told m fs n gs r s p.1 q.1 c.2 in
    (λ i. c.0 i ∷ rest.0 i, rest.1)

line_told : (fs gs : List (List ℕ)) (r s : List ℕ) → 0 < length fs → 0 < length gs → Each (Each Inside) fs → Each (Each Inside) gs
    → line_of fs ++ r ≡ line_of gs ++ s → (fs ≡ gs) × (r ≡ s)
line_told [] gs r s h k p q e = absurd (omega arith)
line_told (f ∷ fs) [] r s h k p q e = absurd (omega arith)
line_told (f ∷ fs) (g ∷ gs) r s h k p q e = fields_told f fs g gs r s p q e

-- ---- an outcome is told by its line

abbrev fields_of : Outcome → List (List ℕ)
fields_of o = fields (words_of o) (numbers_of o)

inside : (o : Outcome) → Each (Each Inside) (fields_of o)
inside o = fields_inside (words_of o) (numbers_of o) (words_inside o)

some_field : (o : Outcome) → 0 < length (fields_of o)
some_field Unopened = omega arith
some_field (Opened (Ok c)) = omega arith
some_field (Opened (Err r)) = omega arith

field_told : (fs gs : List (List ℕ)) → fs ≡ gs → (k : ℕ) → get_or fs k [] ≡ get_or gs k []
field_told fs gs e k = ap (λ (l : List (List ℕ)). get_or l k []) e

-- lines of different kinds have different numbers of fields
kinds_told : {A : Type 0} {fs gs : List (List ℕ)} → (length fs ≡ length gs → ⊥) → fs ≡ gs → A
kinds_told h e = absurd (h (ap length e))

outcome_told : (o p : Outcome) → fields_of o ≡ fields_of p → o ≡ p
outcome_told Unopened Unopened e = refl
outcome_told Unopened (Opened (Ok c)) e = kinds_told (λ z. omega arith) e
outcome_told Unopened (Opened (Err r)) e = kinds_told (λ z. omega arith) e
outcome_told (Opened (Ok c)) Unopened e = kinds_told (λ z. omega arith) e
outcome_told (Opened (Ok c)) (Opened (Ok d)) e =
    let at = field_told (fields_of (Opened (Ok c))) (fields_of (Opened (Ok d))) e in
    λ i. Opened (Ok (record {
      samples = decimal_told (at 0) i;
      changed = decimal_told (at 1) i;
      spikes = decimal_told (at 2) i;
      up = decimal_told (at 3) i;
      down = decimal_told (at 4) i;
    }))
outcome_told (Opened (Ok c)) (Opened (Err r)) e = kinds_told (λ z. omega arith) e
outcome_told (Opened (Err r)) Unopened e = kinds_told (λ z. omega arith) e
outcome_told (Opened (Err r)) (Opened (Ok c)) e = kinds_told (λ z. omega arith) e
outcome_told (Opened (Err r)) (Opened (Err q)) e =
    let at = field_told (fields_of (Opened (Err r))) (fields_of (Opened (Err q))) e in
    λ i. Opened (Err (notice (decimal_told (at 1) i) (decimal_told (at 2) i)))

line_some : (o : Outcome) (rest : List ℕ) → 0 < length (outcome_line o ++ rest)
line_some o rest =
    let feed = outcome_feed o in
    omega (arith, length-append (outcome_line o) rest, ap length feed.ends, length-append feed.front (10 ∷ []))

-- ---- a night is told by its lines

pub outcomes_told : (outcomes others : List Outcome) → lines_above outcomes ≡ lines_above others → outcomes ≡ others
unfolding flat_map
outcomes_told [] [] e = refl
outcomes_told [] (p ∷ ps) e = absurd (omega (arith, line_some p (lines_above ps), ap length e))
outcomes_told (o ∷ os) [] e = absurd (omega (arith, line_some o (lines_above os), ap length e))
outcomes_told (o ∷ os) (p ∷ ps) e =
    let t = line_told (fields_of o) (fields_of p) (lines_above os) (lines_above ps) (some_field o) (some_field p) (inside o) (inside p)
    (rw (outcome_fields o, outcome_fields p) at e) in
    let rest = outcomes_told os ps t.1 in
    λ i. outcome_told o p t.0 i ∷ rest i

-- ---- the line below them

module _ (outcomes : List Outcome) (files : OfFiles outcomes) (few : length outcomes ≤ most_names) where
  pub line_below : (told : List Outcome) → lines_above told ≡ lines_above outcomes → totals_line (running outcomes) ≡ totals_line (totals_of told)
  line_below told e = ap totals_line (night_exact outcomes files few ∙ ap totals_of (sym (outcomes_told told outcomes e)))

  pub files_below : files_in (running outcomes) ≡ length outcomes
  files_below = ap files_in (night_exact outcomes files few) ∙ every_file_counted outcomes files
