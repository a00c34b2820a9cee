-- The night sheet's totals: "files cleaned, files not opened, files refused under 7, 8, 9 and 11 (a count each), samples, changed
-- samples, spikes and both residue totals". Those are request 1's words; request 3 puts 15, 16, 17 and 18 in the place of 11.
use Rattle.std.specs.Prelude.{ℕ, ◌+◌, ◌%◌, ◌^◌, List, [], ◌∷◌, ◌==◌, Ok, Err, get_or}
use Rattle.theory.specs.Lists.{bit}
use Rattle.reports.specs.declared.Counts.{Counts}
use Rattle.totals.specs.declared.Outcome.{Outcome}
use Rattle.totals.specs.declared.Outcome.TheVariants.{Unopened, Opened}
use Rattle.totals.specs.declared.Totals.{Totals}

-- the totals in the order of the night sheet's last line: the files cleaned, not opened, refused under 7, 8, 9, 15, 16, 17 and 18; then the
-- sums, in the order of a file's counts
abbrev pub in_order : Totals → List ℕ
in_order t =
    t.cleaned ∷ t.unopened ∷ t.seven ∷ t.eight ∷ t.nine ∷ t.fifteen ∷ t.sixteen ∷ t.seventeen ∷ t.eighteen
    ∷ t.samples ∷ t.changed ∷ t.spikes ∷ t.up ∷ t.down ∷ []

-- the totals whose numbers are these, in that order
abbrev pub totals_in : List ℕ → Totals
totals_in ns = record {
  cleaned = get_or ns 0 0;
  unopened = get_or ns 1 0;
  seven = get_or ns 2 0;
  eight = get_or ns 3 0;
  nine = get_or ns 4 0;
  fifteen = get_or ns 5 0;
  sixteen = get_or ns 6 0;
  seventeen = get_or ns 7 0;
  eighteen = get_or ns 8 0;
  samples = get_or ns 9 0;
  changed = get_or ns 10 0;
  spikes = get_or ns 11 0;
  up = get_or ns 12 0;
  down = get_or ns 13 0;
}

-- 1 for a file that was not opened
unfoldable pub of_unopened : Outcome → ℕ
of_unopened Unopened = 1
of_unopened (Opened a) = 0

-- 1 for a file refused under a number
unfoldable pub of_refused : ℕ → Outcome → ℕ
of_refused n (Opened (Err r)) = bit (r.number == n)
of_refused n (Opened (Ok c)) = 0
of_refused n Unopened = 0

-- a number of a cleaned file; 0 for another
unfoldable pub of_cleaned : (Counts → ℕ) → Outcome → ℕ
of_cleaned number (Opened (Ok c)) = number c
of_cleaned number (Opened (Err r)) = 0
of_cleaned number Unopened = 0

-- what the outcome of one file adds to the totals
unfoldable pub adds : Outcome → Totals
adds o = record {
  cleaned = of_cleaned (λ c. 1) o;
  unopened = of_unopened o;
  seven = of_refused 7 o;
  eight = of_refused 8 o;
  nine = of_refused 9 o;
  fifteen = of_refused 15 o;
  sixteen = of_refused 16 o;
  seventeen = of_refused 17 o;
  eighteen = of_refused 18 o;
  samples = of_cleaned (λ c. c.samples) o;
  changed = of_cleaned (λ c. c.changed) o;
  spikes = of_cleaned (λ c. c.spikes) o;
  up = of_cleaned (λ c. c.up) o;
  down = of_cleaned (λ c. c.down) o;
}

-- totals by one rule for every field
unfoldable pub each_field : ((Totals → ℕ) → ℕ) → Totals
each_field rule = record {
  cleaned = rule (λ t. t.cleaned);
  unopened = rule (λ t. t.unopened);
  seven = rule (λ t. t.seven);
  eight = rule (λ t. t.eight);
  nine = rule (λ t. t.nine);
  fifteen = rule (λ t. t.fifteen);
  sixteen = rule (λ t. t.sixteen);
  seventeen = rule (λ t. t.seventeen);
  eighteen = rule (λ t. t.eighteen);
  samples = rule (λ t. t.samples);
  changed = rule (λ t. t.changed);
  spikes = rule (λ t. t.spikes);
  up = rule (λ t. t.up);
  down = rule (λ t. t.down);
}

-- no file yet
unfoldable pub nothing : Totals
nothing = each_field (λ field. 0)

-- the running totals with one outcome more, in 64 bits
unfoldable pub added : Totals → Outcome → Totals
added t o = each_field (λ field. (field t + field (adds o)) % 2 ^ 64)

-- a number of every outcome, added up
unfoldable pub total : (Outcome → ℕ) → List Outcome → ℕ
total number [] = 0
total number (o ∷ outcomes) = number o + total number outcomes

-- the totals of a list of outcomes: in each field, the sum of what each adds
unfoldable pub totals_of : List Outcome → Totals
totals_of outcomes = each_field (λ field. total (λ o. field (adds o)) outcomes)
