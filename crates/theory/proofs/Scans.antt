-- Two plans have one form exactly where they agree on every scan: the scans that show a pattern suffice, by either ends rule.
-- Assumes nothing.
use mathlib.Core.Path.{◌≡◌, sym, ap, ◌∙◌}
use mathlib.Core.Bool.{Bool, true, false}
use mathlib.Core.List.{List}
use Prim.Native.Nat.{ℕ, ◌*◌, ◌^◌, ◌≤◌, ◌<◌, zero-le}
use native.Mathlib.Omega.{arith}
use lib.Dec.{leb}
use lib.ListN.{length, get_or}
use lib.IntN.{ℤ, pos}
use borrow.Author.Tests.{le-leb, lt-leb}
use Rattle.theory.specs.Lists.{tab, bit}
use Rattle.theory.specs.Sets.{has}
use Rattle.theory.specs.Orders.{counts}
use Rattle.theory.specs.Forms.{cut, value, form_of}
use Rattle.theory.specs.Signals.{Ends, endless, Window, wide, seen}
use Rattle.theory.proofs.Plans.{Plan, meaning, truth}
use Rattle.theory.proofs.Lists.{length-tab, get_or-tab, get_or_tab_default}
use Rattle.theory.proofs.Orders.{Lawful, StrictOn, counts_lawful}
use Rattle.theory.proofs.Forms.{cut_is}
use Rattle.theory.proofs.Canon.{form_cong}
use Rattle.theory.proofs.Signals.{Fair, seen_from_far, inner}
use Rattle.theory.proofs.Truth.{Fits, plan_cut, plan_form}

pub level_one : (high : ℕ) → 0 < high → (b : Bool) → leb 1 (high * bit b) ≡ b
unfolding bit
level_one high h true = le-leb 1 (high * 1) (omega arith)
level_one high h false = lt-leb 1 (high * 0) (omega arith)

high_or_none : (high : ℕ) (b : Bool) → high * bit b ≤ high
unfolding bit
high_or_none high true = omega arith
high_or_none high false = omega arith

module _ (W : Window) (fair : Fair W) where
  -- ---- a scan that shows a pattern: high in the columns of its positions, 0 elsewhere

  unfoldable pub showing : ℕ → ℕ → List ℕ
  showing high v = tab (wide W) (λ k. high * bit (has v (fair.position k)))

  pub length-showing : (high v : ℕ) → length (showing high v) ≡ wide W
  unfolding showing
  length-showing high v = length-tab (wide W) _

  pub showing-le : (high v i : ℕ) → get_or (showing high v) i 0 ≤ high
  unfolding showing
  showing-le high v i = get_or_tab_default (λ n. n ≤ high) 0 (wide W) _ zero-le (λ k. high_or_none high (has v (fair.position k))) i

  module _ (ends : Ends) (high : ℕ) (pos_high : 0 < high) where
    -- what the window sees of it, from the middle
    pub showing-seen : (v i : ℕ) → i < wide W → seen W (endless 0 ends (showing high v)) (pos W.far) i ≡ high * bit (has v i)
    unfolding showing
    showing-seen v i h =
        let c = fair.column_lt i h in
        seen_from_far W (endless 0 ends (showing high v)) i
        ∙ inner 0 ends (showing high v) (W.column i) (rw (length-showing high v) c)
        ∙ get_or-tab 0 (wide W) _ (W.column i) c
        ∙ ap (λ (j : ℕ). high * bit (has v j)) (fair.position_column i h)

    pub showing_cut : (v : ℕ) → v < 2 ^ wide W → cut counts (wide W) (seen W (endless 0 ends (showing high v)) (pos W.far)) 1 ≡ v
    showing_cut v b = cut_is counts (wide W) _ 1 v b (λ i l. ap (leb 1) (showing-seen v i l) ∙ level_one high pos_high (has v i))

    -- agreement of two plans on the scans that show a pattern: one form
    pub same_forms : (e e' : Plan) → Fits W e → Fits W e'
        → ((v : ℕ) → v < 2 ^ wide W
        → meaning counts e (endless 0 ends (showing high v)) (pos W.far)
        ≡ meaning counts e' (endless 0 ends (showing high v)) (pos W.far))
        → form_of (wide W) (truth W e) ≡ form_of (wide W) (truth W e')
    same_forms e e' ok ok' h = form_cong (wide W) _ _ (λ v b. sym (at e ok v b) ∙ ap (leb 1) (h v b) ∙ at e' ok' v b)
      where
        at : (p : Plan) → Fits W p → (v : ℕ) → v < 2 ^ wide W
            → leb 1 (meaning counts p (endless 0 ends (showing high v)) (pos W.far)) ≡ truth W p v
        at p fits v b =
            plan_cut W fair counts_lawful p fits (endless 0 ends (showing high v)) (pos W.far) 1 ∙ ap (truth W p) (showing_cut v b)

  -- one form: one meaning, on every signal of every order
  pub same_meaning : (e e' : Plan) → Fits W e → Fits W e' → form_of (wide W) (truth W e) ≡ form_of (wide W) (truth W e')
      → {A : Type 0} (O : Lawful A) {P : A → Type 0} → StrictOn O.leq P → (g : ℤ → A) → ((y : ℤ) → P (g y)) → (x : ℤ)
      → meaning O.leq e g x ≡ meaning O.leq e' g x
  same_meaning e e' ok ok' q {A} O anti g h x =
      sym (plan_form W fair O anti e ok (g x) (g x) (h x) (h x) g h x)
      ∙ ap (λ (F : List ℕ). value O.leq (wide W) (g x) (g x) F (seen W g x)) q
      ∙ plan_form W fair O anti e' ok' (g x) (g x) (h x) (h x) g h x
