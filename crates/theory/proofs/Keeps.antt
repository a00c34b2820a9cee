-- The numbers below n that are kept, one number more at a time, and a loop that writes them from the front of a list.
-- Assumes nothing.
use mathlib.Core.Path.{◌≡◌, refl, sym, ap, ◌∙◌}
use mathlib.Core.Bool.{Bool, true, false, cond}
use mathlib.Core.List.{List, [], ◌∷◌, ◌++◌, append-nil}
use mathlib.Core.Logic.{◌⊎◌, inl, inr, ⊎_elim}
use Prim.Native.Nat.{ℕ, zero, suc, ◌+◌, ◌<◌, ◌≤◌}
use native.Mathlib.Nat.{le_refl, eq-or-lt_of_le, le_of_suc-le-suc, not-suc-le-zero, suc-add, add-suc, add-zero, zero-add}
use native.Mathlib.Numerals.{add-one}
use native.Mathlib.Omega.{arith}
use lib.ListN.{length, get_or, drop, set, length-append}
use lib.Seq.{drop-cons, set-append_seam, append_snoc}
use Rattle.theory.specs.Lists.{keep, from, bit}
use Rattle.theory.proofs.Tests.{which}
use Rattle.theory.proofs.Lists.{put, keep_at, from_at, index_mem}

put-append : (b : Bool) (x : ℕ) (xs ys : List ℕ) → put b x (xs ++ ys) ≡ put b x xs ++ ys
put-append true x xs ys = refl
put-append false x xs ys = refl

-- one number more
pub keep_next : (p : ℕ → Bool) (a n : ℕ) → keep p (from a (suc n)) ≡ keep p (from a n) ++ put (p (a + n)) (a + n) []
unfolding keep from
keep_next p a zero = rw (add-zero a)
keep_next p a (suc n) =
    rw (add-suc a n, ← suc-add a n)
    (ap (λ (l : List ℕ). put (p a) a l) (keep_next p (suc a) n)
    ∙ put-append (p a) a (keep p (from (suc a) n)) (put (p (suc a + n)) (suc a + n) []))

-- the numbers below n that are kept, ascending
unfoldable pub kept : (ℕ → Bool) → ℕ → List ℕ
kept p n = keep p (from 0 n)

pub kept_none : (p : ℕ → Bool) → kept p 0 ≡ []
unfolding kept keep from
kept_none p = refl

kept_next : (p : ℕ → Bool) (n : ℕ) (b : Bool) → p n ≡ b → kept p (n + 1) ≡ kept p n ++ put b n []
unfolding kept
kept_next p n b e = rw (add-one, keep_next p 0 n, zero-add n, e)

pub kept-length : (p : ℕ → Bool) (n : ℕ) → length (kept p (n + 1)) ≡ length (kept p n) + bit (p n)
unfolding bit
kept-length p n = ap length (kept_next p n (p n) refl) ∙ length-append (kept p n) (put (p n) n []) ∙ go (p n)
  where
    go : (b : Bool) → length (kept p n) + length (put b n []) ≡ length (kept p n) + bit b
    go true = refl
    go false = refl

kept_mono : (p : ℕ → Bool) (m n : ℕ) → m ≤ n → length (kept p m) ≤ length (kept p n)
kept_mono p m zero h = let e : m ≡ 0 = omega arith in rw e (le_refl (length (kept p 0)))
kept_mono p m (suc n) h =
    ⊎_elim (λ e. rw e (le_refl (length (kept p (suc n)))))
    (λ l. omega (arith, kept_mono p m n (omega arith), rw add-one at (kept-length p n))) (eq-or-lt_of_le h)

-- what is kept has room where all of it has
pub kept_room : (p : ℕ → Bool) (v n : ℕ) → v < n → p v ≡ true → length (kept p v) < length (kept p n)
unfolding bit
kept_room p v n h e = let one : bit (p v) ≡ 1 = ap bit e in omega (arith, kept-length p v, kept_mono p (v + 1) n (omega arith))

-- one number more, kept or not
pub kept_more : (p : ℕ → Bool) (l : List ℕ) (n : ℕ) (b : Bool) → p n ≡ b → (b ≡ true → length (kept p n) < length l) →
    cond b (set (kept p n ++ drop (length (kept p n)) l) (length (kept p n)) n) (kept p n ++ drop (length (kept p n)) l)
    ≡ kept p (n + 1) ++ drop (length (kept p (n + 1))) l
kept_more p l n true e h =
    let K = kept p n in
    let room : length K < length l = h refl in
    rw (kept_next p n true e, length-append K (n ∷ []), add-one, drop-cons l (length K) 0, set-append_seam)
    (sym (append_snoc K n (drop (suc (length K)) l)))
kept_more p l n false e h = rw (kept_next p n false e, append-nil)

-- what is kept of ascending numbers ascends
pub keep_rises : (p : ℕ → Bool) (a n i j : ℕ) → i < j → j < length (keep p (from a n))
    → get_or (keep p (from a n)) i 0 < get_or (keep p (from a n)) j 0
unfolding keep from
keep_rises p a zero i j l h = absurd (not-suc-le-zero h)
keep_rises p a (suc n) i j l h = go (which (p a)) (keep_rises p (suc a) n) i j l h
  where
    rest : List ℕ
    rest = keep p (from (suc a) n)

    go : (p a ≡ true) ⊎ (p a ≡ false) → ((i j : ℕ) → i < j → j < length rest → get_or rest i 0 < get_or rest j 0)
        → (i j : ℕ) → i < j → j < length (put (p a) a rest) → get_or (put (p a) a rest) i 0 < get_or (put (p a) a rest) j 0
    go (inr e) ih i j l h = rw e (ih i j l (rw e at h))
    go (inl e) ih i zero l h = absurd (not-suc-le-zero l)
    go (inl e) ih zero (suc j) l h =
        rw e (omega (arith, from_at (suc a) n (keep_at p (from (suc a) n) (index_mem 0 rest j (le_of_suc-le-suc (rw e at h)))).0))
    go (inl e) ih (suc i) (suc j) l h = rw e (ih i j (le_of_suc-le-suc l) (le_of_suc-le-suc (rw e at h)))
