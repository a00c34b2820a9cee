-- Plans: a recipe as a tree over the scan; its meaning on endless signals of any order, its reach, and its Boolean function. Theorems alone
-- use them: what a recipe gives is defined step by step. Laws of plans: cutting goes through every plan, a plan moves with its signal, reads no further than its reach, and its value is one of
-- the signal's: so where the signal is constant, the plan is that constant.
-- Assumes nothing.
use mathlib.Core.Path.{◌≡◌, refl, sym, ap, ap₂, ◌∙◌, fun_ext}
use mathlib.Core.Bool.{Bool, true}
use mathlib.Core.List.{List, [], ◌∷◌}
use Prim.Native.Nat.{ℕ}
use lib.IntN.{ℤ, pos, ◌+ℤ◌, +ℤ_assoc, +ℤ_idl, +ℤ_idr}
use lib.Signed.{le_z}
use Rattle.theory.specs.Orders.{Order, larger, smaller, largest, smallest, bools}
use Rattle.theory.specs.Ranks.{Pick, pick}
use Rattle.theory.specs.Signals.{Window, leftmost, rightmost, spread}
use Rattle.theory.proofs.Orders.{Lawful, ints_lawful, Strict, Monotone, keeps_larger, keeps_smaller, smallest-le, le-largest}
use Rattle.theory.proofs.Orders.{smaller_left, smaller_right, larger_left, larger_right, larger_from, smaller_from}
use Rattle.theory.proofs.Ranks.{pick_none, pick_agree, pick_from, keeps_pick}
use Rattle.theory.proofs.Ints.{le_z_add}

-- ---- plans

pub data Plan : Type 0 where
  scan : Plan
  near : Pick → List ℤ → Plan → Plan
  larger_plan : Plan → Plan → Plan
  smaller_plan : Plan → Plan → Plan

-- the value at x, for the endless signal g
unfoldable pub meaning : {A : Type 0} → Order A → Plan → (ℤ → A) → ℤ → A
meaning O scan g x = g x
meaning O (near p bs e) g x = pick O p (meaning O e g x) (λ b. meaning O e g (x +ℤ b)) bs
meaning O (larger_plan a b) g x = larger O (meaning O a g x) (meaning O b g x)
meaning O (smaller_plan a b) g x = smaller O (meaning O a g x) (meaning O b g x)

-- ---- the reach

-- the least offset that a plan reads
unfoldable pub lo : Plan → ℤ
lo scan = pos 0
lo (near p bs e) = leftmost bs +ℤ lo e
lo (larger_plan a b) = smaller le_z (lo a) (lo b)
lo (smaller_plan a b) = smaller le_z (lo a) (lo b)

-- the greatest offset that a plan reads
unfoldable pub hi : Plan → ℤ
hi scan = pos 0
hi (near p bs e) = rightmost bs +ℤ hi e
hi (larger_plan a b) = larger le_z (hi a) (hi b)
hi (smaller_plan a b) = larger le_z (hi a) (hi b)

-- ---- the Boolean function

-- the plan's Boolean function: the plan on that signal, at 0
unfoldable pub truth : Window → Plan → ℕ → Bool
truth W e v = meaning bools e (spread W v) (pos 0)

-- ---- a map that keeps the order goes through every plan: cutting at a level is one

module _ {A B : Type 0} (O : Lawful A) (P : Order B) (anti : Strict P) (h : A → B) (mono : Monotone O.leq P h) where
  pub keeps : (e : Plan) (g : ℤ → A) (x : ℤ) → h (meaning O.leq e g x) ≡ meaning P e (λ y. h (g y)) x
  unfolding meaning
  keeps scan g x = refl
  keeps (near p bs e) g x =
      keeps_pick O P anti h mono p (meaning O.leq e g x) (λ b. meaning O.leq e g (x +ℤ b)) bs
      ∙ ap₂ (λ (d : B) (f : ℤ → B). pick P p d f bs) (keeps e g x) (fun_ext (λ b. keeps e g (x +ℤ b)))
  keeps (larger_plan a b) g x = keeps_larger O P anti h mono _ _ ∙ ap₂ (larger P) (keeps a g x) (keeps b g x)
  keeps (smaller_plan a b) g x = keeps_smaller O P anti h mono _ _ ∙ ap₂ (smaller P) (keeps a g x) (keeps b g x)

-- ---- a plan moves with its signal

pub translate : {A : Type 0} (O : Order A) (e : Plan) (g : ℤ → A) (y x : ℤ) → meaning O e g (y +ℤ x) ≡ meaning O e (λ z. g (y +ℤ z)) x
unfolding meaning
translate O scan g y x = refl
translate {A} O (near p bs e) g y x =
    ap₂ (λ (d : A) (f : ℤ → A). pick O p d f bs) (translate O e g y x)
    (fun_ext (λ b. ap (meaning O e g) (+ℤ_assoc y x b) ∙ translate O e g y (x +ℤ b)))
translate O (larger_plan a b) g y x = ap₂ (larger O) (translate O a g y x) (translate O b g y x)
translate O (smaller_plan a b) g y x = ap₂ (smaller O) (translate O a g y x) (translate O b g y x)

-- ---- a plan reads no further than its reach

-- the offset d is one of l .. u
pub record Inside (l u d : ℤ) : Type 0 where
  pub from_lo : le_z l d ≡ true
  pub to_hi : le_z d u ≡ true

abbrev pub AgreeAround : {A : Type 0} → (ℤ → A) → (ℤ → A) → ℤ → ℤ → ℤ → Type 0
AgreeAround g g' x l u = (d : ℤ) → Inside l u d → g (x +ℤ d) ≡ g' (x +ℤ d)

pub wider : {l u l' u' d : ℤ} → le_z l l' ≡ true → le_z u' u ≡ true → Inside l' u' d → Inside l u d
wider {l} {u} {l'} {u'} {d} p q i =
    record { from_lo = ints_lawful.trans l l' d p i.from_lo; to_hi = ints_lawful.trans d u' u i.to_hi q }

pub local : {A : Type 0} (O : Order A) (e : Plan) (g g' : ℤ → A) (x : ℤ) → AgreeAround g g' x (lo e) (hi e)
    → meaning O e g x ≡ meaning O e g' x
unfolding meaning lo hi leftmost rightmost
local O scan g g' x h = ap g (sym (+ℤ_idr x)) ∙ h (pos 0) (record { from_lo = refl; to_hi = refl }) ∙ ap g' (+ℤ_idr x)
local O (near p [] e) g g' x h =
    pick_none O p _ _
    ∙ local O e g g' x (λ d i. h d (unfold smallest largest in rw (+ℤ_idl (lo e), +ℤ_idl (hi e)) i))
    ∙ sym (pick_none O p _ _)
local O (near p (b ∷ bs) e) g g' x h =
    pick_agree O p _ _ _ _ b bs
    (λ c m. local O e g g' (x +ℤ c) (λ d i.
    ap g (+ℤ_assoc x c d)
    ∙ h (c +ℤ d) (record {
      from_lo = le_z_add (leftmost (b ∷ bs)) c (lo e) d (smallest-le ints_lawful (pos 0) (λ z. z) (b ∷ bs) m) i.from_lo;
      to_hi = le_z_add c (rightmost (b ∷ bs)) d (hi e) (le-largest ints_lawful (pos 0) (λ z. z) (b ∷ bs) m) i.to_hi;
    })
    ∙ sym (ap g' (+ℤ_assoc x c d))))
local O (larger_plan a b) g g' x h =
    ap₂ (larger O)
    (local O a g g' x (λ d i. h d (wider (smaller_left ints_lawful (lo a) (lo b)) (larger_left ints_lawful (hi a) (hi b)) i)))
    (local O b g g' x (λ d i. h d (wider (smaller_right ints_lawful (lo a) (lo b)) (larger_right ints_lawful (hi a) (hi b)) i)))
local O (smaller_plan a b) g g' x h =
    ap₂ (smaller O)
    (local O a g g' x (λ d i. h d (wider (smaller_left ints_lawful (lo a) (lo b)) (larger_left ints_lawful (hi a) (hi b)) i)))
    (local O b g g' x (λ d i. h d (wider (smaller_right ints_lawful (lo a) (lo b)) (larger_right ints_lawful (hi a) (hi b)) i)))

-- ---- a reach goes from its least to its greatest

-- ---- what is so of each of the signal's values is so of the plan's

pub meaning_from : {A : Type 0} (O : Order A) (P : A → Type 0) (e : Plan) (g : ℤ → A) → ((y : ℤ) → P (g y)) → (x : ℤ) → P (meaning O e g x)
unfolding meaning
meaning_from O P scan g h x = h x
meaning_from O P (near p bs e) g h x = pick_from O P p _ _ bs (meaning_from O P e g h x) (λ b m. meaning_from O P e g h (x +ℤ b))
meaning_from O P (larger_plan a b) g h x = larger_from O P _ _ (meaning_from O P a g h x) (meaning_from O P b g h x)
meaning_from O P (smaller_plan a b) g h x = smaller_from O P _ _ (meaning_from O P a g h x) (meaning_from O P b g h x)

-- on a constant signal a plan is that constant
pub constant : {A : Type 0} (O : Order A) (e : Plan) (c : A) (x : ℤ) → meaning O e (λ y. c) x ≡ c
constant O e c x = meaning_from O (λ a. a ≡ c) e (λ y. c) (λ y. refl) x

-- and so it is where the signal is constant around x, as far as the plan reaches
pub constant_around : {A : Type 0} (O : Order A) (e : Plan) (g : ℤ → A) (x : ℤ) (c : A)
    → ((d : ℤ) → Inside (lo e) (hi e) d → g (x +ℤ d) ≡ c)
    → meaning O e g x ≡ c
constant_around O e g x c h = local O e g (λ y. c) x h ∙ constant O e c x
