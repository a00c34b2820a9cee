-- The theorem of demand 3: the form of a plan's Boolean function computes the plan, on every endless signal of every order.
-- Assumes nothing.
use mathlib.Core.Path.{◌≡◌, refl, sym, ap, ◌∙◌, subst, fun_ext}
use mathlib.Core.Bool.{Bool, true, false, ◌&&◌}
use mathlib.Core.List.{Memᴰ}
use Prim.Native.Nat.{ℕ, zero, suc, ◌+◌, ◌^◌, ◌<◌}
use native.Mathlib.Omega.{arith}
use lib.Dec.{leb}
use lib.IntN.{ℤ, pos, neg_ℤ, ◌+ℤ◌, +ℤ_idl, +ℤ_idr}
use lib.Signed.{le_z}
use borrow.Author.Tests.{leb-true, le-leb}
use Rattle.theory.specs.Lists.{any, from, bit}
use Rattle.theory.specs.Sets.{has, gather, within, positions}
use Rattle.theory.specs.Orders.{bools, counts}
use Rattle.theory.specs.Forms.{holds, cut, value, Positive, minimal, form_of}
use Rattle.theory.specs.Signals.{Window, wide, offset, offsets, seen, spread}
use Rattle.theory.proofs.Tests.{same_test, not_both, and_left, and_right, and_both}
use Rattle.theory.proofs.Lists.{any_at, any_by, any_map, keep_at, from_at}
use Rattle.theory.proofs.Sets.{has_gather, gather-lt, within_has, positions-at, positions_mem, has_zero}
use Rattle.theory.proofs.Orders.{Lawful, counts_lawful, ints_lawful, StrictOn, bools_strict, cut_monotone, same_levels, leq_refl}
use Rattle.theory.proofs.Ints.{ints_strict}
use Rattle.theory.proofs.Forms.{Varying, value_cut_varying, value_from}
use Rattle.theory.proofs.Canon.{minimal_one, holds_form}
use Rattle.theory.proofs.Plans.{Plan, meaning, lo, hi, truth, Inside, wider, keeps, constant, translate, local, meaning_from}
use Rattle.theory.proofs.Signals.{Fair, fair_once, fair_cover}

-- two integers are one: each is at most the other
unfoldable pub same_z : ℤ → ℤ → Bool
same_z a b = le_z a b && le_z b a

pub same_is : (a b : ℤ) → same_z a b ≡ true → a ≡ b
unfolding same_z
same_is a b e = ints_strict a b (and_left (le_z a b) (le_z b a) e) (and_right (le_z a b) (le_z b a) e)

pub same_self : (a : ℤ) → same_z a a ≡ true
unfolding same_z
same_self a = and_both (leq_refl ints_lawful a) (leq_refl ints_lawful a)

-- of two stacked bits, the first not above the second: a height of 2 is the first, and of 1 the second
at-two : (a b : Bool) → (a ≡ true → b ≡ true) → leb 2 (bit a + bit b) ≡ a
unfolding bit
at-two true true f = refl
at-two true false f = f refl
at-two false true f = refl
at-two false false f = refl

at_one : (a b : Bool) → (a ≡ true → b ≡ true) → leb 1 (bit a + bit b) ≡ b
unfolding bit
at_one true true f = refl
at_one true false f = sym (f refl)
at_one false true f = refl
at_one false false f = refl

-- the plan's reach lies in the window
pub record Fits (W : Window) (e : Plan) : Type 0 where
  pub left_ok : le_z (neg_ℤ (pos W.far)) (lo e) ≡ true
  pub right_ok : le_z (hi e) (pos W.far) ≡ true

pub fits_inside : (W : Window) (e : Plan) → Fits W e → (d : ℤ) → Inside (lo e) (hi e) d → Inside (neg_ℤ (pos W.far)) (pos W.far) d
fits_inside W e ok d i = wider ok.left_ok ok.right_ok i

module _ (W : Window) (fair : Fair W) where
  -- ---- the signal of a pattern, at the window's offsets

  spread_by : (v : ℕ) (d : ℤ) → spread W v d ≡ any (λ i. same_z (offset W i) d) (positions (wide W) v)
  unfolding spread offsets same_z
  spread_by v d = any_map (λ b. same_z b d) (offset W) (positions (wide W) v)

  pub spread_at : (v i : ℕ) → i < wide W → spread W v (offset W i) ≡ has v i
  spread_at v i l =
      spread_by v (offset W i) ∙ same_test to (λ h. any_by (λ j. same_z (offset W j) (offset W i)) (positions_mem (wide W) v l h) (same_self (offset W i)))
    where
      to : any (λ j. same_z (offset W j) (offset W i)) (positions (wide W) v) ≡ true → has v i ≡ true
      to e =
          let s = any_at (λ j. same_z (offset W j) (offset W i)) (positions (wide W) v) e in
          let k = positions-at (wide W) v s.1 in
          let q : s.0 ≡ i = fair_once W fair s.0 i k.0 l (same_is _ _ s.2) in
          subst (λ (j : ℕ). has v j ≡ true) q k.1

  -- a 0/1 signal that agrees with a pattern on the window gives the pattern's truth
  pub truth_by : (e : Plan) → Fits W e → (v : ℕ) (s : ℤ → Bool) → ((i : ℕ) → i < wide W → s (offset W i) ≡ has v i)
      → meaning bools e s (pos 0) ≡ truth W e v
  unfolding truth
  truth_by e ok v s f = local bools e s (spread W v) (pos 0) (λ d i. rw (+ℤ_idl d) (at d (fair_cover W fair d (fits_inside W e ok d i))))
    where
      at : (d : ℤ) → (i : ℕ) × (i < wide W) × (offset W i ≡ d) → s d ≡ spread W v d
      at d c = subst (λ (z : ℤ). s z ≡ spread W v z) c.2 (f c.0 c.1 ∙ sym (spread_at v c.0 c.1))

  -- ---- the plan reaches a level exactly where its Boolean function is 1 on the cut

  pub plan_cut : {A : Type 0} (O : Lawful A) (e : Plan) → Fits W e → (g : ℤ → A) (x : ℤ) (t : A)
      → O.leq t (meaning O.leq e g x) ≡ truth W e (cut O.leq (wide W) (seen W g x) t)
  unfolding cut seen
  plan_cut O e ok g x t =
      ap (λ (z : ℤ). O.leq t (meaning O.leq e g z)) (sym (+ℤ_idr x))
      ∙ ap (O.leq t) (translate O.leq e g x (pos 0))
      ∙ keeps O bools bools_strict (O.leq t) (cut_monotone O t) e (λ y. g (x +ℤ y)) (pos 0)
      ∙ truth_by e ok _ (λ y. O.leq t (g (x +ℤ y))) (λ i l. sym (has_gather (wide W) (λ j. O.leq t (g (x +ℤ offset W j))) i l))

  -- ---- the Boolean function is positive: stack the two patterns, and cut the stack at 1 and at 2

  spread_up : (u v : ℕ) → within u v ≡ true → (y : ℤ) → spread W u y ≡ true → spread W v y ≡ true
  spread_up u v q y h =
      let s = any_at (λ i. same_z (offset W i) y) (positions (wide W) u) (sym (spread_by u y) ∙ h) in
      let k = positions-at (wide W) u s.1 in
      spread_by v y ∙ any_by (λ i. same_z (offset W i) y) (positions_mem (wide W) v k.0 (within_has u v q s.0 k.1)) s.2

  pub truth_positive : (e : Plan) → Positive (wide W) (truth W e)
  unfolding truth
  truth_positive e u v l q h =
      sym (at 1 (spread W v) (λ y. at_one (spread W u y) (spread W v y) (spread_up u v q y)))
      ∙ le-leb 1 (meaning counts e stack (pos 0)) (omega (arith, leb-true 2 (meaning counts e stack (pos 0)) two))
    where
      stack : ℤ → ℕ
      stack y = bit (spread W u y) + bit (spread W v y)

      at : (t : ℕ) (s : ℤ → Bool) → ((y : ℤ) → leb t (stack y) ≡ s y) → leb t (meaning counts e stack (pos 0)) ≡ meaning bools e s (pos 0)
      at t s f =
          keeps counts_lawful bools bools_strict (leb t) (cut_monotone counts_lawful t) e stack (pos 0)
          ∙ ap (λ (k : ℤ → Bool). meaning bools e k (pos 0)) (fun_ext f)

      two : leb 2 (meaning counts e stack (pos 0)) ≡ true
      two = at 2 (spread W u) (λ y. at-two (spread W u y) (spread W v y) (spread_up u v q y)) ∙ h

  -- ---- the form of a plan is not constant

  pub plan_varying : (e : Plan) → Fits W e → Varying (wide W) (form_of (wide W) (truth W e))
  unfolding form_of holds
  plan_varying e ok =
      record { present = (found.0, found.1); each = λ m k. each m (keep_at (minimal (truth W e)) (from 0 (2 ^ wide W)) k) }
    where
      full : ℕ
      full = gather (wide W) (λ i. true)

      truth_full : truth W e full ≡ true
      truth_full = sym (truth_by e ok full (λ y. true) (λ i l. sym (has_gather (wide W) (λ i. true) i l))) ∙ constant bools e true (pos 0)

      truth-zero : truth W e 0 ≡ false
      truth-zero = sym (truth_by e ok 0 (λ y. false) (λ i l. sym (has_zero i))) ∙ constant bools e false (pos 0)

      found : (m : ℕ) × Memᴰ m (form_of (wide W) (truth W e)) × (within m full ≡ true)
      found =
          any_at (λ m. within m full) (form_of (wide W) (truth W e))
          (holds_form (wide W) (truth W e) (truth_positive e) full (gather-lt (wide W) (λ i. true)) ∙ truth_full)

      each : (m : ℕ) → Memᴰ m (from 0 (2 ^ wide W)) × (minimal (truth W e) m ≡ true) → (0 < m) × (m < 2 ^ wide W)
      each zero k = absurd (not_both (minimal_one (truth W e) 0 k.1) truth-zero)
      each (suc m) k = (omega arith, omega (arith, from_at 0 (2 ^ wide W) k.0))

  -- ---- the theorem

  -- at every level, of any order
  pub plan_levels : {A : Type 0} (O : Lawful A) (e : Plan) → Fits W e → (low high : A) (g : ℤ → A) (x : ℤ) (t : A)
      → O.leq t (value O.leq (wide W) low high (form_of (wide W) (truth W e)) (seen W g x)) ≡ O.leq t (meaning O.leq e g x)
  plan_levels O e ok low high g x t =
      value_cut_varying O (wide W) low high (form_of (wide W) (truth W e)) (seen W g x) (plan_varying e ok) t
      ∙ holds_form (wide W) (truth W e) (truth_positive e) (cut O.leq (wide W) (seen W g x) t) (unfold cut in gather-lt (wide W) _)
      ∙ sym (plan_cut O e ok g x t)

  -- where two values that reach the same levels are one, among the signal's values
  pub plan_form : {A : Type 0} (O : Lawful A) {P : A → Type 0} → StrictOn O.leq P → (e : Plan) → Fits W e → (low high : A) → P low
      → P high
      → (g : ℤ → A) → ((y : ℤ) → P (g y)) → (x : ℤ)
      → value O.leq (wide W) low high (form_of (wide W) (truth W e)) (seen W g x) ≡ meaning O.leq e g x
  unfolding seen
  plan_form O {P} anti e ok low high pl ph g pg x =
      same_levels O anti _ _ (value_from O.leq P (wide W) low high _ _ pl ph (λ i. pg (x +ℤ offset W i)))
      (meaning_from O.leq P e g pg x) (plan_levels O e ok low high g x)
