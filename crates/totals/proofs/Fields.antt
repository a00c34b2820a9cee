-- The fields of the totals, so that a law is proved once for all of them.
-- Assumes nothing.
use Rattle.std.proofs.Common.{◌≡◌, ℕ, ◌+◌, ◌%◌, ◌^◌, List, length, get_or, refl}
use Rattle.theory.specs.Lists.{tab}
use Rattle.totals.specs.declared.Outcome.{Outcome}
use Rattle.totals.specs.declared.Totals.{Totals}
use Rattle.totals.specs.Totals.{each_field, in_order, totals_in, adds, added}

pub data Field : Type 0 where
  cleaned : Field
  unopened : Field
  seven : Field
  eight : Field
  nine : Field
  fifteen : Field
  sixteen : Field
  seventeen : Field
  eighteen : Field
  samples : Field
  changed : Field
  spikes : Field
  up : Field
  down : Field

-- what the totals have in a field
abbrev pub at : Field → Totals → ℕ
at cleaned t = t.cleaned
at unopened t = t.unopened
at seven t = t.seven
at eight t = t.eight
at nine t = t.nine
at fifteen t = t.fifteen
at sixteen t = t.sixteen
at seventeen t = t.seventeen
at eighteen t = t.eighteen
at samples t = t.samples
at changed t = t.changed
at spikes t = t.spikes
at up t = t.up
at down t = t.down

-- totals by a rule have in each field what the rule gives
pub at_each : (rule : (Totals → ℕ) → ℕ) (field : Field) → at field (each_field rule) ≡ rule (at field)
unfolding each_field
at_each rule cleaned = refl
at_each rule unopened = refl
at_each rule seven = refl
at_each rule eight = refl
at_each rule nine = refl
at_each rule fifteen = refl
at_each rule sixteen = refl
at_each rule seventeen = refl
at_each rule eighteen = refl
at_each rule samples = refl
at_each rule changed = refl
at_each rule spikes = refl
at_each rule up = refl
at_each rule down = refl

-- totals are equal where every field is
pub same_fields : {t u : Totals} → ((field : Field) → at field t ≡ at field u) → t ≡ u
same_fields e = λ i. record {
  cleaned = e cleaned i;
  unopened = e unopened i;
  seven = e seven i;
  eight = e eight i;
  nine = e nine i;
  fifteen = e fifteen i;
  sixteen = e sixteen i;
  seventeen = e seventeen i;
  eighteen = e eighteen i;
  samples = e samples i;
  changed = e changed i;
  spikes = e spikes i;
  up = e up i;
  down = e down i;
}

-- totals by their numbers, each a sum in 64 bits, are those with one outcome more
pub added_by : (t : Totals) (o : Outcome) {before more : List ℕ} → before ≡ in_order t → more ≡ in_order (adds o)
    → totals_in (tab (length before) (λ k. (get_or before k 0 + get_or more k 0) % 2 ^ 64)) ≡ added t o
unfolding tab added each_field
added_by t o p q = rw (p, q) refl
