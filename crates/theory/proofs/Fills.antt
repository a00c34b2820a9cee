-- A loop that fills a list from the front by a rule, one store a turn.
-- Assumes nothing.
use mathlib.Core.Path.{◌≡◌, refl, ap, ap₂, ◌∙◌}
use mathlib.Core.List.{List, ◌++◌}
use Prim.Native.Nat.{ℕ, ◌+◌, ◌≤◌, ◌<◌, zero-le}
use native.Mathlib.Omega.{arith}
use lib.ListN.{length, get_or, drop, set, length-set}
use lib.Seq.{get_or-append-add, get_or-drop}
use Rattle.theory.specs.Lists.{tab}
use Rattle.theory.proofs.Lists.{length-tab, tab_none, tab_more, tab_all}

-- after j turns the first j elements go by the rule, and the others are as they were
pub record Filled {A : Type 0} (f : ℕ → A) (old new : List A) (j : ℕ) : Type 0 where
  pub same : length new ≡ length old
  pub short : j ≤ length old
  pub is : new ≡ tab j f ++ drop j old

module _ {A : Type 0} where
  pub fill_none : (f : ℕ → A) (old : List A) → Filled f old old 0
  fill_none f old = record { same = refl; short = zero-le; is = tab_none f old }

  -- the element that the next turn is to store is as it was
  pub fill_here : (d : A) {f : ℕ → A} {old new : List A} {j : ℕ} → Filled f old new j → get_or new j d ≡ get_or old j d
  fill_here d {f} {old} {new} {j} r =
      let n : length (tab j f) ≡ j = length-tab j f in
      let e : j ≡ length (tab j f) + 0 = omega arith in
      ap (λ (l : List A). get_or l j d) r.is
      ∙ ap (λ (k : ℕ). get_or (tab j f ++ drop j old) k d) e
      ∙ get_or-append-add (tab j f) (drop j old) 0 d
      ∙ get_or-drop j old 0 d
      ∙ ap (λ (k : ℕ). get_or old k d) (omega arith)

  pub fill_more : {f : ℕ → A} {old new : List A} {j : ℕ} {v : A} → Filled f old new j → j < length old → v ≡ f j
      → Filled f old (set new j v) (j + 1)
  fill_more {f} {old} {new} {j} {v} r h e = record {
    same = length-set new j v ∙ r.same;
    short = omega arith;
    is = ap₂ (λ (l : List A) (a : A). set l j a) r.is e ∙ tab_more v f old j h;
  }

  -- the rule has filled the whole
  pub fill_all : {f : ℕ → A} {old new : List A} {j : ℕ} → Filled f old new j → length old ≤ j → new ≡ tab (length old) f
  fill_all {f} {old} {new} {j} r h =
      let e : j ≡ length old = omega (arith, r.short) in
      r.is ∙ tab_all f old j h ∙ ap (λ (n : ℕ). tab n f) e
