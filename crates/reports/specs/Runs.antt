-- Runs of neighbouring samples of one kind, and how many of them cannot be lengthened.
use Rattle.std.specs.Prelude.{ℕ, suc, ◌+◌, ◌-◌, Bool, not, ◌&&◌, leb, ltb, eqb}
use Rattle.theory.specs.Lists.{all, from, bit, sum}

-- the samples from a up to b, without b, are a run: there is one, all are of one kind, and that kind is not 0
unfoldable pub is_run : (ℕ → ℕ) → ℕ → ℕ → Bool
is_run kind a b = ltb a b && not (eqb (kind a) 0) && all (λ x. eqb (kind x) (kind a)) (from a (b - a))

-- of n samples, a longest run: a run that is none with one more sample before it or after it
unfoldable pub is_longest : ℕ → (ℕ → ℕ) → ℕ → ℕ → Bool
is_longest n kind a b =
    is_run kind a b && leb b n && not (ltb 0 a && is_run kind (a - 1) b) && not (ltb b n && is_run kind a (b + 1))

-- how many longest runs n samples have: how many pairs of a start and an end are one
unfoldable pub longest_runs : ℕ → (ℕ → ℕ) → ℕ
longest_runs n kind = sum n (λ a. sum (suc n) (λ b. bit (is_longest n kind a b)))
