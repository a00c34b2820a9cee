-- What the chains of the table calls give, in the words of the definitions.
-- Assumes nothing.
use mathlib.Core.Path.{◌≡◌, refl, sym, ap, subst, ◌∙◌}
use mathlib.Core.Bool.{Bool, false, cond}
use mathlib.Core.Logic.{◌⊎◌, inl, inr}
use mathlib.Core.List.{List, ◌∷◌}
use Prim.Native.Nat.{ℕ, zero, suc, ◌+◌, ◌<◌, ◌≤◌, zero-le}
use native.Mathlib.Nat.{eq-or-lt_of_le}
use native.Mathlib.Numerals.{add-one}
use native.Mathlib.Omega.{arith}
use denote.Param.Members.{Mut, Called}
use lib.ListN.{get_or}
use Rattle.std.specs.List.{filter, range_with_len}
use Rattle.std.specs.Array.{IsFromFnResultFrom, IsFromFnResult}
use Rattle.std.proofs.lemmas.List.{same_lists}
use Rattle.limits.specs.Limits.{byte_bits}
use Rattle.theory.specs.Lists.{keep, from, tab}
use Rattle.theory.specs.Sets.{gather}
use Rattle.theory.proofs.Lists.{length-tab, get_or-tab}
use Rattle.theory.proofs.Sets.{gather_cong}

-- ---- an array made by a closure

module _ {F B : Type 0} (g : Mut F (ℕ × Unit {0}) B) (f : F) (ys : List B) (n : ℕ) (h : ℕ → B)
    (rule : (k : ℕ) (y : B) (q : F) → k < n → Called g f (k, tt) y q → (q ≡ f) × (y ≡ h k)) where
  made_from : (p : F) (i m : ℕ) → p ≡ f → i + m ≡ n → IsFromFnResultFrom g p ys i m → (k : ℕ) (d : B) → i ≤ k → k < n → get_or ys k d ≡ h k
  made_from p i zero e s r k d l b = absurd (omega arith)
  made_from p i (suc m) e s r k d l b = go (eq-or-lt_of_le l) (λ t. made_from r.0 (i + 1) m one.0 (omega arith) r.4 k d t b)
    where
      one : (r.0 ≡ f) × (r.1 ≡ h i)
      one = rule i r.1 r.0 (omega arith) (subst (λ (p : F). Called g p (i, tt) r.1 r.0) e r.3)

      go : (i ≡ k) ⊎ (i < k) → (i + 1 ≤ k → get_or ys k d ≡ h k) → get_or ys k d ≡ h k
      go (inl q) later = rw (sym q) (r.2.1 d ∙ one.1)
      go (inr q) later = later (omega arith)

  -- has the closure's answers one after the other
  pub made : IsFromFnResult g f ys n → ys ≡ tab n h
  made r =
      same_lists ys (tab n h) (r.long ∙ sym (length-tab n h))
      (λ k d l. made_from f 0 n refl (omega arith) r.each k d zero-le (omega (arith, r.long)) ∙ sym (get_or-tab d n h k (omega (arith, r.long))))

-- so the byte of eight answers goes by their rule
pub made_byte : {F : Type 0} (g : Mut F (ℕ × Unit {0}) Bool) (f : F) (ys : List Bool) (h : ℕ → Bool)
    → ((k : ℕ) (y : Bool) (q : F) → k < byte_bits → Called g f (k, tt) y q → (q ≡ f) × (y ≡ h k)) → IsFromFnResult g f ys byte_bits
    → gather byte_bits (λ i. get_or ys i false) ≡ gather byte_bits h
made_byte g f ys h rule r =
    gather_cong byte_bits _ h (λ i l. ap (λ (l : List Bool). get_or l i false) (made g f ys byte_bits h rule r) ∙ get_or-tab false byte_bits h i l)

-- ---- the terms of a form

-- the numbers from a on that pass
pub keep_range : (p : ℕ → Bool) (a n : ℕ) → filter p (range_with_len a n) ≡ keep p (from a n)
unfolding keep from
keep_range p a zero = refl
keep_range p a (suc n) = ap (λ (l : List ℕ). cond (p a) (a ∷ l) l) (rw add-one (keep_range p (suc a) n))
