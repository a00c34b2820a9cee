-- Laws of forms: the filter's value reaches a level exactly where the function is 1 on the cut there, and a count's value is the number
-- of such levels.
-- Assumes nothing.
use mathlib.Core.Path.{◌≡◌, refl, sym, ap, ◌∙◌, fun_ext}
use mathlib.Core.Bool.{Bool, true, false}
use mathlib.Core.List.{List, [], ◌∷◌, Memᴰ}
use Prim.Native.Nat.{ℕ, ◌^◌, ◌≤◌, ◌<◌, zero-le}
use native.Mathlib.Omega.{arith}
use lib.Dec.{leb}
use borrow.Author.Tests.{le-leb, lt-leb}
use Rattle.theory.specs.Sets.{has, gather, positions}
use Rattle.theory.specs.Orders.{Order, largest, smallest, bools, counts}
use Rattle.theory.specs.Forms.{holds, cut, value, levels}
use Rattle.theory.proofs.Lists.{any_cong, tally_cong, tally_below}
use Rattle.theory.proofs.Sets.{has_gather, gather-lt, same_bits, within_gather, positions-at, positions_nonempty}
use Rattle.theory.proofs.Orders.{Lawful, counts_lawful, Strict, Monotone, bools_strict, cut_monotone, largest_any, smallest_all}
use Rattle.theory.proofs.Orders.{keeps_largest, keeps_smallest, largest_from, smallest_from, largest_agree, smallest_agree}

-- every term is a set of w positions
abbrev pub Terms : ℕ → List ℕ → Type 0
Terms w form = (m : ℕ) → Memᴰ m form → m < 2 ^ w

-- ---- a map that keeps the order goes through value

pub keeps_value : {A B : Type 0} (O : Lawful A) (P : Order B) → Strict P → (h : A → B) → Monotone O.leq P h
    → (w : ℕ) (lo hi : A) (form : List ℕ) (n : ℕ → A)
    → h (value O.leq w lo hi form n) ≡ value P w (h lo) (h hi) form (λ i. h (n i))
unfolding value
keeps_value O P anti h mono w lo hi form n =
    keeps_largest O P anti h mono lo (λ m. smallest O.leq hi n (positions w m)) form
    ∙ ap (λ F. largest P (h lo) F form) (fun_ext (λ m. keeps_smallest O P anti h mono hi n (positions w m)))

-- over the truth values, value is the Boolean function
pub value_holds : (w : ℕ) (form : List ℕ) (p : ℕ → Bool) → Terms w form → value bools w false true form p ≡ holds form (gather w p)
unfolding value holds
value_holds w form p ok =
    largest_any (λ m. smallest bools true p (positions w m)) form
    ∙ any_cong _ _ form (λ m k. smallest_all p (positions w m) ∙ sym (within_gather w m p (ok m k)))

-- the value reaches a level exactly where the function is 1 on the cut there
pub value_cut : {A : Type 0} (O : Lawful A) (w : ℕ) (lo hi : A) (form : List ℕ) (n : ℕ → A) → Terms w form
    → (t : A) → O.leq t lo ≡ false → O.leq t hi ≡ true → O.leq t (value O.leq w lo hi form n) ≡ holds form (cut O.leq w n t)
unfolding cut
value_cut O w lo hi form n ok t l u =
    keeps_value O bools bools_strict (O.leq t) (cut_monotone O t) w lo hi form n
    ∙ rw (l, u) (value_holds w form (λ i. O.leq t (n i)) ok)

-- the cut is the pattern whose positions are those that reach the level
pub cut_is : {A : Type 0} (O : Order A) (w : ℕ) (n : ℕ → A) (t : A) (v : ℕ) → v < 2 ^ w → ((i : ℕ) → i < w → O t (n i) ≡ has v i)
    → cut O w n t ≡ v
unfolding cut
cut_is O w n t v b h = same_bits w (gather w (λ i. O t (n i))) v (gather-lt w _) b (λ i l. has_gather w (λ i. O t (n i)) i l ∙ h i l)

-- ---- a value reads its window at the window's positions alone

pub value_agree : {A : Type 0} (O : Order A) (w : ℕ) (lo hi : A) (form : List ℕ) (n n' : ℕ → A) → ((i : ℕ) → i < w → n i ≡ n' i)
    → value O w lo hi form n ≡ value O w lo hi form n'
unfolding value
value_agree O w lo hi form n n' h = ap (λ F. largest O lo F form) (fun_ext (λ m. same (positions w m) (λ i k. h i (positions-at w m k).0)))
  where
    same : (xs : List ℕ) → ((i : ℕ) → Memᴰ i xs → n i ≡ n' i) → smallest O hi n xs ≡ smallest O hi n' xs
    same [] f = unfold smallest in refl
    same (x ∷ xs) f = smallest_agree O hi hi n n' x xs f

-- ---- what is so of each value is so of the filter's

pub value_from : {A : Type 0} (O : Order A) (P : A → Type 0) (w : ℕ) (lo hi : A) (form : List ℕ) (n : ℕ → A) → P lo → P hi
    → ((i : ℕ) → P (n i)) → P (value O w lo hi form n)
unfolding value
value_from O P w lo hi form n l h f = largest_from O P lo _ form l (λ m k. smallest_from O P hi n (positions w m) h (λ i q. f i))

-- ---- counts

-- the filter by its levels is the filter by its values
pub levels_value : (w top : ℕ) (form : List ℕ) (n : ℕ → ℕ) → Terms w form → ((i : ℕ) → n i ≤ top)
    → levels w top form n ≡ value counts w 0 top form n
unfolding levels
levels_value w top form n ok h =
    tally_cong top _ (λ t. leb t (value counts w 0 top form n))
    (λ t l u. sym (value_cut counts_lawful w 0 top form n ok t (lt-leb t 0 l) (le-leb t top u)))
    ∙ tally_below top (value counts w 0 top form n)
    ∙ omega (arith, small)
  where
    small : value counts w 0 top form n ≤ top
    small = value_from counts (λ v. v ≤ top) w 0 top form n zero-le (omega arith) h

-- ---- forms that are not constant: there lo and hi are not read, and the law holds at every level of any order

-- a form with a term, all of whose terms have a position
pub record Varying (w : ℕ) (form : List ℕ) : Type 0 where
  pub present : (m : ℕ) × Memᴰ m form
  pub each : (m : ℕ) → Memᴰ m form → (0 < m) × (m < 2 ^ w)

smallest_default : {A : Type 0} (O : Order A) (hi hi' : A) (n : ℕ → A) {i : ℕ} (xs : List ℕ) → Memᴰ i xs
    → smallest O hi n xs ≡ smallest O hi' n xs
smallest_default O hi hi' n [] m = elim m [ ]
smallest_default O hi hi' n (x ∷ xs) m = smallest_agree O hi hi' n n x xs (λ z k. refl)

pub value_default : {A : Type 0} (O : Order A) (w : ℕ) (lo hi lo' hi' : A) (form : List ℕ) (n : ℕ → A) → Varying w form
    → value O w lo hi form n ≡ value O w lo' hi' form n
unfolding value
value_default O w lo hi lo' hi' [] n ok = elim ok.present.1 [ ]
value_default O w lo hi lo' hi' (m ∷ f) n ok =
    largest_agree O lo lo' _ _ m f
    (λ z k. smallest_default O hi hi' n (positions w z) (positions_nonempty w z (ok.each z k).0 (ok.each z k).1).1)

pub value_cut_varying : {A : Type 0} (O : Lawful A) (w : ℕ) (lo hi : A) (form : List ℕ) (n : ℕ → A) → Varying w form
    → (t : A) → O.leq t (value O.leq w lo hi form n) ≡ holds form (cut O.leq w n t)
unfolding cut
value_cut_varying O w lo hi form n ok t =
    keeps_value O bools bools_strict (O.leq t) (cut_monotone O t) w lo hi form n
    ∙ value_default bools w _ _ false true form _ ok
    ∙ value_holds w form (λ i. O.leq t (n i)) (λ m k. (ok.each m k).1)
