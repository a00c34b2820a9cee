-- Spikes are counted by their starts: a sample whose residue isn't 0 and is not of the sign of the residue before it.
-- Assumes nothing.
use Prim.Native.Nat.{ℕ, zero, suc}
use mathlib.Core.Path.{◌≡◌, refl, ap, ◌∙◌}
use mathlib.Core.Bool.{Bool, true, false, not, cond, ◌&&◌, ◌||◌}
use lib.Dec.{ltb, eqb}
use lib.IntN.{ℤ, nat_abs}
use lib.Signed.{non_neg}
use Rattle.theory.specs.Lists.{bit, sum}
use Rattle.reports.specs.Counts.{is_change, kind_of, counts_of}
use Rattle.reports.specs.Starts.{of_one_sign, starts_spike}
use Rattle.reports.proofs.Sums.{sum_cong}
use Rattle.reports.proofs.Spikes.{kind_before, starts_at, runs_by_starts}

-- a residue above 0, and one below 0
above_test : (s : Bool) (m : ℕ) → ltb 0 (cond s m 0) ≡ (s && ltb 0 m)
above_test true m = refl
above_test false m = refl

below_test : (s : Bool) (m : ℕ) → ltb 0 (cond s 0 m) ≡ (not s && ltb 0 m)
below_test true m = refl
below_test false m = refl

-- a residue's kind by two tests: it isn't 0, and it is not below 0
abbrev kind_by : Bool → Bool → ℕ
kind_by b s = cond b (cond s 1 2) 0

-- the first of two residues has a kind, and not that of the second
kinds_apart : (b s c t : Bool) → (not (eqb (kind_by b s) 0) && not (eqb (kind_by b s) (kind_by c t)))
    ≡ (b && not ((s && b) && (t && c) || (not s && b) && (not t && c)))
kinds_apart false s c t = refl
kinds_apart true true false true = refl
kinds_apart true true false false = refl
kinds_apart true true true true = refl
kinds_apart true true true false = refl
kinds_apart true false false true = refl
kinds_apart true false false false = refl
kinds_apart true false true true = refl
kinds_apart true false true false = refl

signs_apart : (r q : ℤ) → (not (eqb (kind_of r) 0) && not (eqb (kind_of r) (kind_of q))) ≡ (is_change r && not (of_one_sign r q))
unfolding kind_of is_change of_one_sign
signs_apart r q =
    rw (above_test (non_neg r) (nat_abs r), above_test (non_neg q) (nat_abs q), below_test (non_neg r) (nat_abs r), below_test (non_neg q) (nat_abs q))
    (kinds_apart (ltb 0 (nat_abs r)) (non_neg r) (ltb 0 (nat_abs q)) (non_neg q))

has_kind : (r : ℤ) → (not (eqb (kind_of r) 0) && not (eqb (kind_of r) 0)) ≡ is_change r
unfolding kind_of is_change
has_kind r = go (ltb 0 (nat_abs r)) (non_neg r)
  where
    go : (b s : Bool) → (not (eqb (kind_by b s) 0) && not (eqb (kind_by b s) 0)) ≡ b
    go false s = refl
    go true true = refl
    go true false = refl

starts_alike : (residue : ℕ → ℤ) (x : ℕ) → starts_at (λ y. kind_of (residue y)) x ≡ starts_spike residue x
unfolding starts_at kind_before starts_spike
starts_alike residue zero = has_kind (residue zero)
starts_alike residue (suc x) = signs_apart (residue (suc x)) (residue x)

-- the number of spikes is the number of samples whose residue isn't 0 and is not of the sign of the residue before it
pub spikes_by_starts : (n : ℕ) (residue : ℕ → ℤ) → (counts_of n residue).spikes ≡ sum n (λ x. bit (starts_spike residue x))
unfolding counts_of
spikes_by_starts n residue =
    runs_by_starts (λ x. kind_of (residue x)) n
    ∙ sum_cong n _ (λ x. bit (starts_spike residue x)) (λ x h. ap bit (starts_alike residue x))
