-- A file is laid out well, or it is refused for its one cause: the first of the four whose condition holds. Over the family.
-- Assumes nothing.
use Rattle.std.specs.Prelude.{Ok, Err}
use mathlib.Core.Path.{◌≡◌, refl}
use mathlib.Core.Bool.{Bool, true, false}
use mathlib.Core.List.{List}
use mathlib.Core.Logic.{◌⊎◌, inl, inr}
use Prim.Native.Nat.{ℕ}
use native.Mathlib.Omega.{arith}
use Rattle.refusals.specs.declared.Refusal.{Refusal}
use Rattle.files.specs.declared.Family.{Family}
use Rattle.files.specs.Layout.{sized, marked, points_at_terms, points_at_samples}
use Rattle.files.specs.Files.{layout_checked, file_checked}
use Rattle.files.specs.Causes.{Cause, by_length, by_mark, by_terms, by_samples, OfLayout}

module _ (family : Family) (f : List ℕ) where
  -- the layout's check finds what has a cause, and the file is refused for it, under one of the four numbers
  pub cause_found : {r : Refusal} → Cause family f r → layout_checked family f ≡ Err r
  unfolding layout_checked
  cause_found (by_length size) = rw size
  cause_found (by_mark size mark) = rw (size, mark)
  cause_found (by_terms size mark terms) = rw (size, mark, terms)
  cause_found (by_samples size mark terms samples) = rw (size, mark, terms, samples)

  pub cause_refused : {r : Refusal} → Cause family f r → file_checked family f ≡ Err r
  unfolding file_checked
  cause_refused cause = rw (cause_found cause)

  pub cause_numbers : {r : Refusal} → Cause family f r → OfLayout r
  cause_numbers (by_length size) = (omega arith, omega arith)
  cause_numbers (by_mark size mark) = (omega arith, omega arith)
  cause_numbers (by_terms size mark terms) = (omega arith, omega arith)
  cause_numbers (by_samples size mark terms samples) = (omega arith, omega arith)

  -- where the layout's check refuses there is a cause
  pub fine_or_cause : (layout_checked family f ≡ Ok tt) ⊎ ((r : Refusal) × Cause family f r)
  unfolding layout_checked
  fine_or_cause = go (sized family f) (marked family f) (points_at_terms f) (points_at_samples family f) refl refl refl refl
    where
      go : (size mark terms samples : Bool) → sized family f ≡ size → marked family f ≡ mark → points_at_terms f ≡ terms
          → points_at_samples family f ≡ samples → (layout_checked family f ≡ Ok tt) ⊎ ((r : Refusal) × Cause family f r)
      go false mark terms samples s m t p = inr (_, by_length s)
      go true false terms samples s m t p = inr (_, by_mark s m)
      go true true false samples s m t p = inr (_, by_terms s m t)
      go true true true false s m t p = inr (_, by_samples s m t p)
      go true true true true s m t p = inl (rw (s, m, t, p))
