-- The order of the integers, by gaps: a is at most b where some natural number takes a to b. Sums keep it, and negatives turn it round.
-- Assumes nothing.
use mathlib.Core.Path.{◌≡◌, refl, sym, ap, ap₂, ◌∙◌, subst}
use mathlib.Core.Bool.{true, false, cond}
use mathlib.Core.Logic.{◌⊎◌, inl, inr}
use Prim.Native.Nat.{ℕ, suc, ◌+◌, ◌-◌, ◌≤◌}
use native.Mathlib.Omega.{arith}
use lib.Dec.{ltb}
use lib.IntN.{ℤ, pos, negsuc, neg_ℤ, sub_ℕ, ◌+ℤ◌, +ℤ_assoc, +ℤ_comm, +ℤ_idr, +ℤ_invl, neg_ℤ-+ℤ, pos-+ℤ-pos}
use lib.Signed.{le_z}
use borrow.Author.Tests.{leb-true, le-leb, lt-ltb, le-ltb}
use Rattle.theory.specs.Orders.{larger, smaller}
use Rattle.theory.proofs.Tests.{which, not_both}
use Rattle.theory.proofs.Orders.{ints_lawful, Strict}

pub gap : (a b : ℤ) → le_z a b ≡ true → (n : ℕ) × (a +ℤ pos n ≡ b)
gap (pos a) (pos b) e = (b - a, ap pos (omega (arith, leb-true a b e)))
gap (pos a) (negsuc b) e = absurd (not_both e refl)
gap (negsuc a) (pos b) e = (suc a + b, rw (le-ltb (suc a + b) (suc a) (omega arith)) (ap pos (omega arith)))
gap (negsuc a) (negsuc b) e =
    let l : b ≤ a = leb-true b a e in
    (a - b, rw (lt-ltb (a - b) (suc a) (omega arith)) (ap negsuc (omega arith)))

pub up : (a : ℤ) (n : ℕ) → le_z a (a +ℤ pos n) ≡ true
up (pos a) n = le-leb a (a + n) (omega arith)
up (negsuc a) n = go (which (ltb n (suc a)))
  where
    go : (ltb n (suc a) ≡ true) ⊎ (ltb n (suc a) ≡ false) → le_z (negsuc a) (sub_ℕ n (suc a)) ≡ true
    go (inl e) = rw e (le-leb (suc a - suc n) a (omega arith))
    go (inr e) = rw e

by_gap : (a b : ℤ) (n : ℕ) → a +ℤ pos n ≡ b → le_z a b ≡ true
by_gap a b n e = subst (λ (z : ℤ). le_z a z ≡ true) e (up a n)

swap : (a m c n : ℤ) → (a +ℤ c) +ℤ (m +ℤ n) ≡ (a +ℤ m) +ℤ (c +ℤ n)
swap a m c n =
    +ℤ_assoc a c (m +ℤ n)
    ∙ ap (λ (z : ℤ). a +ℤ z) (sym (+ℤ_assoc c m n) ∙ ap (λ (z : ℤ). z +ℤ n) (+ℤ_comm c m) ∙ +ℤ_assoc m c n)
    ∙ sym (+ℤ_assoc a m (c +ℤ n))

pub le_z_add : (a b c d : ℤ) → le_z a b ≡ true → le_z c d ≡ true → le_z (a +ℤ c) (b +ℤ d) ≡ true
le_z_add a b c d p q =
    let g = gap a b p in
    let h = gap c d q in
    by_gap (a +ℤ c) (b +ℤ d) (g.0 + h.0)
    (ap (λ (z : ℤ). (a +ℤ c) +ℤ z) (sym (pos-+ℤ-pos g.0 h.0))
    ∙ swap a (pos g.0) c (pos h.0)
    ∙ ap₂ (λ (x y : ℤ). x +ℤ y) g.1 h.1)

-- ---- each at most the other, and turned round

pub ints_strict : Strict le_z
ints_strict (pos a) (pos b) p q = ap pos (omega (arith, leb-true a b p, leb-true b a q))
ints_strict (pos a) (negsuc b) p q = absurd (not_both p refl)
ints_strict (negsuc a) (pos b) p q = absurd (not_both q refl)
ints_strict (negsuc a) (negsuc b) p q = ap negsuc (omega (arith, leb-true b a p, leb-true a b q))

pub neg_down : (a b : ℤ) → le_z a b ≡ true → le_z (neg_ℤ b) (neg_ℤ a) ≡ true
neg_down a b e =
    let g = gap a b e in
    let back : neg_ℤ b +ℤ pos g.0 ≡ neg_ℤ a =
    ap (λ (z : ℤ). neg_ℤ z +ℤ pos g.0) (sym g.1)
    ∙ ap (λ (z : ℤ). z +ℤ pos g.0) (neg_ℤ-+ℤ a (pos g.0))
    ∙ +ℤ_assoc (neg_ℤ a) (neg_ℤ (pos g.0)) (pos g.0)
    ∙ ap (λ (z : ℤ). neg_ℤ a +ℤ z) (+ℤ_invl (pos g.0))
    ∙ +ℤ_idr (neg_ℤ a) in
    subst (λ (z : ℤ). le_z (neg_ℤ b) z ≡ true) back (up (neg_ℤ b) g.0)

pub neg_larger : (a b : ℤ) → neg_ℤ (larger le_z a b) ≡ smaller le_z (neg_ℤ a) (neg_ℤ b)
unfolding larger smaller
neg_larger a b = go (which (le_z a b)) (which (le_z (neg_ℤ a) (neg_ℤ b)))
  where
    go : (le_z a b ≡ true) ⊎ (le_z a b ≡ false) → (le_z (neg_ℤ a) (neg_ℤ b) ≡ true) ⊎ (le_z (neg_ℤ a) (neg_ℤ b) ≡ false)
        → neg_ℤ (cond (le_z a b) b a) ≡ cond (le_z (neg_ℤ a) (neg_ℤ b)) (neg_ℤ a) (neg_ℤ b)
    go (inl p) (inl q) = rw (p, q) (ints_strict (neg_ℤ b) (neg_ℤ a) (neg_down a b p) q)
    go (inl p) (inr q) = rw (p, q)
    go (inr p) (inl q) = rw (p, q)
    go (inr p) (inr q) = absurd (not_both (neg_down b a (ints_lawful.total a b p)) q)
