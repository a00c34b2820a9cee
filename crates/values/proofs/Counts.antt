-- The walks on counts of at most the top: the smallest that a term reaches, and the largest of those. Citations of the laws over any order.
-- Assumes nothing.
use mathlib.Core.Path.{◌≡◌, sym, ap₂, ◌∙◌}
use mathlib.Core.Bool.{true, cond}
use mathlib.Core.List.{List}
use Prim.Native.Nat.{ℕ, ◌+◌, ◌≤◌, ◌<◌, zero-le}
use lib.ListN.{length, get_or, drop}
use borrow.Author.Tests.{le-leb}
use Rattle.limits.specs.Limits.{width, top}
use Rattle.theory.specs.Sets.{has, positions}
use Rattle.theory.specs.Orders.{counts, larger, smaller, smallest}
use Rattle.theory.specs.Forms.{value}
use Rattle.theory.proofs.Orders.{StrictOn, counts_lawful, counts_strict}
use Rattle.theory.proofs.Demands.{Samples}
use Rattle.theory.proofs.Walks as walks
use Rattle.values.specs.Private.{smallest_in}

strict : StrictOn counts (λ n. Unit {0})
strict a b p q = counts_strict a b

module _ (near : List ℕ) where
  -- what the window sees at a position
  abbrev seen : ℕ → ℕ
  seen i = get_or near i 0

  module _ (term : ℕ) (small : Samples near) where
    below_top : (i : ℕ) → counts (seen i) top ≡ true
    below_top i = le-leb (seen i) top (small i)

    -- the smallest at one position
    pub smallest-at : (i : ℕ) → smallest_in term near i 1 ≡ cond (has term i) (get_or near i 0) top
    unfolding smallest_in
    smallest-at i = walks.smallest_one counts_lawful strict top tt seen (λ k. tt) below_top (has term) i

    -- the smaller of two neighbouring stretches of positions is that of the whole stretch
    pub smallest_join : (i k m : ℕ) {a b r : ℕ} → a ≡ smallest_in term near i k → b ≡ smallest_in term near (i + k) m → r ≡ smaller counts a b
        → r ≡ smallest_in term near i (k + m)
    unfolding smallest_in
    smallest_join i k m p q e =
        e ∙ ap₂ (smaller counts) p q ∙ sym (walks.smallest_split counts_lawful strict top tt seen (λ j. tt) below_top (has term) k m i)

  -- what the form gives
  abbrev pub gives : List ℕ → ℕ
  gives terms = value counts width 0 top terms seen

  -- what a term counts for
  reached : ℕ → ℕ
  reached m = smallest counts top seen (positions width m)

  above_zero : (m : ℕ) → counts 0 (reached m) ≡ true
  above_zero m = le-leb 0 (reached m) zero-le

  module _ (terms : List ℕ) where
    pub value_start : larger counts 0 (gives (drop 0 terms)) ≡ gives terms
    unfolding value reached
    value_start = walks.largest_start counts_lawful strict 0 tt reached (λ m. tt) above_zero terms

    pub value_turn : (k m : ℕ) → k < length terms
        → larger counts (larger counts m (smallest_in (get_or terms k 0) near 0 width)) (gives (drop (k + 1) terms))
        ≡ larger counts m (gives (drop k terms))
    unfolding value reached smallest_in positions
    value_turn k m h = walks.largest_turn counts_lawful strict 0 tt reached (λ m. tt) above_zero terms k h m

    pub value_end : (k m : ℕ) → length terms ≤ k → larger counts m (gives (drop k terms)) ≡ m
    unfolding value reached
    value_end k m h = walks.largest-end counts_lawful strict 0 tt reached (λ m. tt) above_zero terms k h m tt (le-leb 0 m zero-le)
