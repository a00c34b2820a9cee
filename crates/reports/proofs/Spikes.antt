-- Longest runs are counted by their starts: a sample of a kind that is not 0 and not that of the sample before it.
-- Assumes nothing.
use mathlib.Core.Path.{◌≡◌, refl, sym, ap, ◌∙◌}
use mathlib.Core.Bool.{Bool, true, false, not, ◌&&◌}
use mathlib.Core.Logic.{◌⊎◌, inl, inr}
use Prim.Native.Nat.{ℕ, zero, suc, ◌+◌, ◌-◌, ◌≤◌, ◌<◌}
use native.Mathlib.Nat.{not-suc-le-zero}
use native.Mathlib.Numerals.{add-one}
use native.Mathlib.Omega.{arith}
use lib.Dec.{leb, ltb, eqb}
use borrow.Author.Tests.{lt-ltb, ltb-true, ltb-false, le-leb, leb-true, eq-eqb, ne_eqb, eqb-true, eqb-false, not-true, not-false}
use Rattle.theory.specs.Lists.{from, first, bit, sum}
use Rattle.theory.proofs.Tests.{same_test, and_left, and_right, and_both, which, not_both}
use Rattle.theory.proofs.Lists.{all_at, all_by, from_mem, from_at}
use Rattle.reports.specs.Runs.{is_run, is_longest, longest_runs}
use Rattle.reports.proofs.Sums.{sum_cong, sum-zero, sum_one, first_le, first_before, first_there}

module _ (kind : ℕ → ℕ) where
  -- the kind before x; 0 before the first sample
  unfoldable pub kind_before : ℕ → ℕ
  kind_before zero = 0
  kind_before (suc x) = kind x

  -- a run starts at x
  unfoldable pub starts_at : ℕ → Bool
  starts_at x = not (eqb (kind x) 0) && not (eqb (kind x) (kind_before x))

  before_is : (x : ℕ) → 0 < x → kind_before x ≡ kind (x - 1)
  unfolding kind_before
  before_is zero h = absurd (not-suc-le-zero h)
  before_is (suc x) h = let e : x ≡ suc x - 1 = omega arith in ap kind e

  -- ---- a run, as facts

  record Run (a b : ℕ) : Type 0 where
    nonempty : a < b
    nonzero : kind a ≡ 0 → ⊥
    same : (x : ℕ) → a ≤ x → x < b → kind x ≡ kind a

  run_facts : (a b : ℕ) → is_run kind a b ≡ true → Run a b
  unfolding is_run
  run_facts a b e =
      let front = and_left (ltb a b && not (eqb (kind a) 0)) _ e in
      let l : a < b = ltb-true a b (and_left _ _ front) in
      let alike = and_right (ltb a b && not (eqb (kind a) 0)) _ e in
      record {
        nonempty = l;
        nonzero = eqb-false (kind a) 0 (not-true _ (and_right (ltb a b) _ front));
        same = λ x h k. eqb-true (kind x) (kind a) (all_at (λ y. eqb (kind y) (kind a)) alike (from_mem a (b - a) h (omega arith)));
      }

  run_by : (a b : ℕ) → Run a b → is_run kind a b ≡ true
  unfolding is_run
  run_by a b r =
      and_both (and_both (lt-ltb a b r.nonempty) (ap not (ne_eqb (kind a) 0 r.nonzero)))
      (all_by (λ x. eqb (kind x) (kind a)) (from a (b - a))
      (λ x m.
      let at = from_at a (b - a) m in
      let l : a < b = r.nonempty in
      eq-eqb (kind x) (kind a) (r.same x at.0 (omega (arith, at.1)))))

  -- ---- a longest run, as facts

  record Longest (n a b : ℕ) : Type 0 where
    run : Run a b
    inside : b ≤ n
    no_earlier : 0 < a → Run (a - 1) b → ⊥
    no_later : b < n → Run a (b + 1) → ⊥

  longest_facts : (n a b : ℕ) → is_longest n kind a b ≡ true → Longest n a b
  unfolding is_longest
  longest_facts n a b e =
      let r = is_run kind a b in
      let l = leb b n in
      let p = not (ltb 0 a && is_run kind (a - 1) b) in
      let front = and_left (r && l && p) _ e in
      let two = and_left (r && l) p front in
      record {
        run = run_facts a b (and_left r l two);
        inside = leb-true b n (and_right r l two);
        no_earlier = λ h q. not_both (and_both (lt-ltb 0 a h) (run_by (a - 1) b q)) (not-true _ (and_right (r && l) p front));
        no_later = λ h q. not_both (and_both (lt-ltb b n h) (run_by a (b + 1) q)) (not-true _ (and_right (r && l && p) _ e));
      }

  longest_by : (n a b : ℕ) → Longest n a b → is_longest n kind a b ≡ true
  unfolding is_longest
  longest_by n a b g =
      let earlier = none (ltb 0 a) (is_run kind (a - 1) b) (λ h q. g.no_earlier (ltb-true 0 a h) (run_facts (a - 1) b q)) in
      let later = none (ltb b n) (is_run kind a (b + 1)) (λ h q. g.no_later (ltb-true b n h) (run_facts a (b + 1) q)) in
      and_both (and_both (and_both (run_by a b g.run) (le-leb b n g.inside)) earlier) later
    where
      none : (s t : Bool) → (s ≡ true → t ≡ true → ⊥) → not (s && t) ≡ true
      none true true f = absurd (f refl refl)
      none true false f = refl
      none false t f = refl

  -- ---- the run from a on, and where it stops

  module _ (n a : ℕ) (inside : a < n) where
    other : ℕ → Bool
    other j = not (eqb (kind (a + j)) (kind a))

    stop : ℕ
    stop = a + first other (n - a)

    stop_le : stop ≤ n
    unfolding stop
    stop_le = omega (arith, first_le other (n - a))

    same_till : (x : ℕ) → a ≤ x → x < stop → kind x ≡ kind a
    unfolding stop other
    same_till x h k =
        let e : a + (x - a) ≡ x = omega arith in
        let l : x - a < first other (n - a) = omega arith in
        sym (ap kind e) ∙ eqb-true (kind (a + (x - a))) (kind a) (not-false _ (first_before other (n - a) (x - a) l))

    stop_other : stop < n → kind stop ≡ kind a → ⊥
    unfolding stop other
    stop_other h = eqb-false (kind stop) (kind a) (not-true _ (first_there other (n - a) (omega arith)))

    stop_past : a < stop
    stop_past = go (which (ltb a stop))
      where
        at : stop ≤ a → stop ≡ a
        at h = unfold stop in omega arith

        go : (ltb a stop ≡ true) ⊎ (ltb a stop ≡ false) → a < stop
        go (inl e) = ltb-true a stop e
        go (inr e) = let q : stop ≡ a = at (ltb-false a stop e) in absurd (stop_other (omega arith) (ap kind q))

    -- where a run starts, one longest run starts
    start_run : starts_at a ≡ true → Longest n a stop
    unfolding starts_at
    start_run s =
        let new = eqb-false (kind a) (kind_before a) (not-true _ (and_right (not (eqb (kind a) 0)) _ s)) in
        record {
          run = record { nonempty = stop_past; nonzero = eqb-false (kind a) 0 (not-true _ (and_left _ _ s)); same = same_till };
          inside = stop_le;
          no_earlier = λ h r. new (r.same a (omega arith) stop_past ∙ sym (before_is a h));
          no_later = λ h r. stop_other h (r.same stop (omega (arith, stop_past)) (omega arith));
        }

    only_run : (b : ℕ) → Longest n a b → b ≡ stop
    only_run b g = go (which (ltb b stop)) (which (ltb stop b))
      where
        short : b < stop → ⊥
        short l =
            let m = stop_le in
            let nonempty = g.run.nonempty in
            g.no_later (omega arith) (record {
              nonempty = omega arith;
              nonzero = g.run.nonzero;
              same = λ x h k. same_till x h (omega arith);
            })

        long : stop < b → ⊥
        long l =
            let m = g.inside in
            let p = stop_past in
            stop_other (omega arith) (g.run.same stop (omega arith) l)

        go : (ltb b stop ≡ true) ⊎ (ltb b stop ≡ false) → (ltb stop b ≡ true) ⊎ (ltb stop b ≡ false) → b ≡ stop
        go (inl e) q = absurd (short (ltb-true b stop e))
        go (inr e) (inl q) = absurd (long (ltb-true stop b q))
        go (inr e) (inr q) = omega (arith, ltb-false b stop e, ltb-false stop b q)

    -- where none starts, none starts that cannot be lengthened
    no_run : starts_at a ≡ false → (b : ℕ) → Longest n a b → ⊥
    unfolding starts_at kind_before
    no_run s b g = go (which (ltb 0 a))
      where
        same : kind a ≡ kind_before a
        same = eqb-true (kind a) (kind_before a) (not-false _ (rw (ne_eqb (kind a) 0 g.run.nonzero) at s))

        go : (ltb 0 a ≡ true) ⊎ (ltb 0 a ≡ false) → ⊥
        go (inl e) =
            let h : 0 < a = ltb-true 0 a e in
            let back : kind a ≡ kind (a - 1) = same ∙ before_is a h in
            let nonempty = g.run.nonempty in
            g.no_earlier h (record {
              nonempty = omega arith;
              nonzero = λ z. g.run.nonzero (back ∙ z);
              same = λ x l k. at x (which (ltb x a)) l k back;
            })
          where
            at : (x : ℕ) → (ltb x a ≡ true) ⊎ (ltb x a ≡ false) → a - 1 ≤ x → x < b → kind a ≡ kind (a - 1) → kind x ≡ kind (a - 1)
            at x (inl q) l k back = let z : x ≡ a - 1 = omega (arith, ltb-true x a q) in ap kind z
            at x (inr q) l k back = g.run.same x (ltb-false x a q) k ∙ back
        go (inr e) = let z : a ≡ 0 = omega (arith, ltb-false 0 a e) in g.run.nonzero (same ∙ ap kind_before z)

    runs_from : sum (suc n) (λ b. bit (is_longest n kind a b)) ≡ bit (starts_at a)
    unfolding bit
    runs_from = go (which (starts_at a))
      where
        one : starts_at a ≡ true → sum (suc n) (λ b. bit (is_longest n kind a b)) ≡ 1
        one s =
            sum_cong (suc n) (λ b. bit (is_longest n kind a b)) (λ b. bit (eqb b stop))
            (λ b h.
            ap bit
            (same_test (λ e. eq-eqb b stop (only_run b (longest_facts n a b e)))
            (λ e. rw (eqb-true b stop e) (longest_by n a stop (start_run s)))))
            ∙ sum_one (suc n) stop (omega (arith, stop_le))

        none : starts_at a ≡ false → sum (suc n) (λ b. bit (is_longest n kind a b)) ≡ 0
        none s =
            sum_cong (suc n) (λ b. bit (is_longest n kind a b)) (λ b. 0)
            (λ b h. ap bit (same_test {b = false} (λ e. absurd (no_run s b (longest_facts n a b e))) (λ e. absurd (not_both e refl))))
            ∙ sum-zero (suc n)

        go : (starts_at a ≡ true) ⊎ (starts_at a ≡ false) → sum (suc n) (λ b. bit (is_longest n kind a b)) ≡ bit (starts_at a)
        go (inl e) = one e ∙ sym (ap bit e)
        go (inr e) = none e ∙ sym (ap bit e)

  -- the number of longest runs is the number of their starts
  pub runs_by_starts : (n : ℕ) → longest_runs n kind ≡ sum n (λ a. bit (starts_at a))
  unfolding longest_runs
  runs_by_starts n = sum_cong n _ (λ a. bit (starts_at a)) (λ a h. runs_from n a h)

  pub before-next : (x : ℕ) → kind_before (x + 1) ≡ kind x
  unfolding kind_before
  before-next x = rw add-one

-- equal kinds, equally many longest runs
pub runs_cong : (n : ℕ) (k m : ℕ → ℕ) → ((x : ℕ) → x < n → k x ≡ m x) → longest_runs n k ≡ longest_runs n m
unfolding starts_at kind_before
runs_cong n k m e = runs_by_starts k n ∙ sum_cong n (λ a. bit (starts_at k a)) (λ a. bit (starts_at m a)) at ∙ sym (runs_by_starts m n)
  where
    before : (a : ℕ) → a < n → kind_before k a ≡ kind_before m a
    before zero h = refl
    before (suc a) h = e a (omega arith)

    at : (a : ℕ) → a < n → bit (starts_at k a) ≡ bit (starts_at m a)
    at a h = rw (e a h, before a h)
