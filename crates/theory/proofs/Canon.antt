-- Valid forms: the form of a positive function has that function, and a valid form is the only one with its function.
-- Assumes nothing.
use mathlib.Core.Path.{◌≡◌, refl, sym, ap, ap₂, ◌∙◌, subst}
use mathlib.Core.Bool.{Bool, true, false, not, ◌&&◌}
use mathlib.Core.List.{List, [], ◌∷◌, Memᴰ}
use mathlib.Core.Logic.{◌⊎◌, inl, inr}
use Prim.Native.Nat.{ℕ, zero, suc, ◌+◌, ◌^◌, ◌≤◌, ◌<◌, zero-le}
use native.Mathlib.Omega.{arith}
use lib.Dec.{ltb, eqb}
use borrow.Author.Tests.{eqb-true, eqb-false, ne_eqb, not-true, ltb-true}
use Rattle.theory.specs.Lists.{all, any, keep, from}
use Rattle.theory.specs.Sets.{within}
use Rattle.theory.specs.Forms.{holds, Valid, Positive, minimal, form_of}
use Rattle.theory.proofs.Tests.{same_test, which, not_both, and_left, and_right, and_both}
use Rattle.theory.proofs.Lists.{put, all_at, any_at, any_by, any_cong, any_none, keep_mem, keep_at, keep_cong, from_mem, from_at}
use Rattle.theory.proofs.Sets.{within_refl, within_trans, within_le}
use Rattle.theory.proofs.Forms.{Terms}

-- ---- minimal, taken apart and put together

pub minimal_one : (f : ℕ → Bool) (v : ℕ) → minimal f v ≡ true → f v ≡ true
unfolding minimal
minimal_one f v e = and_left (f v) _ e

pub minimal_none : (f : ℕ → Bool) (u v : ℕ) → minimal f v ≡ true → u < v → f u ≡ true → within u v ≡ true → ⊥
unfolding minimal
minimal_none f u v e l p q =
    not_both (any_by (λ x. f x && within x v) (from_mem 0 v zero-le (omega arith)) (and_both p q)) (not-true _ (and_right (f v) _ e))

pub minimal_by : (f : ℕ → Bool) (v : ℕ) → f v ≡ true → ((u : ℕ) → u < v → f u ≡ true → within u v ≡ true → ⊥) → minimal f v ≡ true
unfolding minimal
minimal_by f v p h = rw (p, any_none (λ x. f x && within x v) (from 0 v) (λ u m. go u (which (f u && within u v)) m))
  where
    go : (u : ℕ) → ((f u && within u v) ≡ true) ⊎ ((f u && within u v) ≡ false) → Memᴰ u (from 0 v) → (f u && within u v) ≡ false
    go u (inl e) m = absurd (h u (omega (arith, from_at 0 v m)) (and_left (f u) _ e) (and_right (f u) _ e))
    go u (inr e) m = e

-- where f is 1 and v is not minimal, a smaller pattern within v has f at 1
minimal_less : (f : ℕ → Bool) (v : ℕ) → f v ≡ true → minimal f v ≡ false → (u : ℕ) × (u < v) × (f u ≡ true) × (within u v ≡ true)
unfolding minimal
minimal_less f v p e = go (which (any (λ u. f u && within u v) (from 0 v)))
  where
    go : (any (λ u. f u && within u v) (from 0 v) ≡ true) ⊎ (any (λ u. f u && within u v) (from 0 v) ≡ false)
        → (u : ℕ) × (u < v) × (f u ≡ true) × (within u v ≡ true)
    go (inl q) =
        let r = any_at (λ u. f u && within u v) (from 0 v) q in
        (r.0, omega (arith, from_at 0 v r.1), and_left (f r.0) _ r.2, and_right (f r.0) _ r.2)
    go (inr q) = absurd (not_both (rw (p, q)) e)

minimal_cong : (f g : ℕ → Bool) (v : ℕ) → ((u : ℕ) → u ≤ v → f u ≡ g u) → minimal f v ≡ minimal g v
unfolding minimal
minimal_cong f g v h =
    ap₂ (λ (x y : Bool). x && not y) (h v (omega arith))
    (any_cong _ _ (from 0 v) (λ u m. ap (λ (x : Bool). x && within u v) (h u (omega (arith, from_at 0 v m)))))

-- ---- a valid form lists the minimal patterns of its function

pub valid_terms : (w : ℕ) (F : List ℕ) → Valid w F → Terms w F
valid_terms w [] ok m k = elim k [ ]
valid_terms w (x ∷ F) ok m (mathlib.Core.List.Memᴰ.head e) = omega arith
valid_terms w (x ∷ F) ok m (mathlib.Core.List.Memᴰ.tail k) = valid_terms w F ok.2 m k

-- no term lies within another
apart : (w : ℕ) (F : List ℕ) → Valid w F → (m v : ℕ) → Memᴰ m F → Memᴰ v F → within m v ≡ true → m ≡ v
apart w [] ok m v p q e = elim p [ ]
apart w (x ∷ F) ok m v (mathlib.Core.List.Memᴰ.head a) (mathlib.Core.List.Memᴰ.head b) e = a ∙ sym b
apart w (x ∷ F) ok m v (mathlib.Core.List.Memᴰ.head a) (mathlib.Core.List.Memᴰ.tail q) e = absurd (not_both e (ap (λ (k : ℕ). within k v) a ∙ (ok.1 v q).1))
apart w (x ∷ F) ok m v (mathlib.Core.List.Memᴰ.tail p) (mathlib.Core.List.Memᴰ.head b) e = absurd (omega (arith, (ok.1 m p).0, within_le e))
apart w (x ∷ F) ok m v (mathlib.Core.List.Memᴰ.tail p) (mathlib.Core.List.Memᴰ.tail q) e = apart w F ok.2 m v p q e

member_minimal : (w : ℕ) (F : List ℕ) → Valid w F → (v : ℕ) → any (eqb v) F ≡ minimal (holds F) v
unfolding holds
member_minimal w F ok v = same_test to back
  where
    to : any (eqb v) F ≡ true → minimal (holds F) v ≡ true
    to e =
        let r = any_at (eqb v) F e in
        let i : Memᴰ v F = subst (λ (k : ℕ). Memᴰ k F) (sym (eqb-true v r.0 r.2)) r.1 in
        minimal_by (holds F) v (any_by (λ m. within m v) i (within_refl v))
        (λ u l p q. let s = any_at (λ m. within m u) F p in
        let z : s.0 ≡ v = apart w F ok s.0 v s.1 i (within_trans s.0 u v s.2 q) in
        omega (arith, within_le s.2))

    back : minimal (holds F) v ≡ true → any (eqb v) F ≡ true
    back e =
        let s = any_at (λ m. within m v) F (minimal_one (holds F) v e) in
        pick s.0 s.1 s.2 (which (eqb v s.0))
      where
        pick : (m : ℕ) → Memᴰ m F → within m v ≡ true → (eqb v m ≡ true) ⊎ (eqb v m ≡ false) → any (eqb v) F ≡ true
        pick m i q (inl p) = any_by (eqb v) i p
        pick m i q (inr p) =
            let ne : v ≡ m → ⊥ = eqb-false v m p in
            absurd (minimal_none (holds F) m v e (omega (arith, within_le q)) (any_by (λ k. within k m) i (within_refl m)) q)

-- ---- an ascending list is what passes the test of being in it

abbrev Asc : List ℕ → Type 0
Asc [] = Unit {0}
Asc (m ∷ f) = ((k : ℕ) → Memᴰ k f → m < k) × Asc f

valid_asc : (w : ℕ) (F : List ℕ) → Valid w F → Asc F
valid_asc w [] ok = tt
valid_asc w (x ∷ F) ok = (λ k i. (ok.1 k i).0, valid_asc w F ok.2)

keep_members : (n a : ℕ) (F : List ℕ) → Asc F → ((k : ℕ) → Memᴰ k F → (a ≤ k) × (k < a + n)) → keep (λ v. any (eqb v) F) (from a n) ≡ F
unfolding keep from any
keep_members zero a [] s b = refl
keep_members zero a (x ∷ F) s b = absurd (omega (arith, b x (mathlib.Core.List.Memᴰ.head refl)))
keep_members (suc n) a [] s b = keep_members n (suc a) [] s (λ k i. elim i [ ])
keep_members (suc n) a (x ∷ F) s b =
    go (which (eqb a x)) (keep_members n (suc a) F s.1) (keep_members n (suc a) (x ∷ F) s)
  where
    go : (eqb a x ≡ true) ⊎ (eqb a x ≡ false)
        → (((k : ℕ) → Memᴰ k F → (suc a ≤ k) × (k < suc a + n)) → keep (λ v. any (eqb v) F) (from (suc a) n) ≡ F)
        → (((k : ℕ) → Memᴰ k (x ∷ F) → (suc a ≤ k) × (k < suc a + n)) → keep (λ v. any (eqb v) (x ∷ F)) (from (suc a) n) ≡ x ∷ F)
        → put (any (eqb a) (x ∷ F)) a (keep (λ v. any (eqb v) (x ∷ F)) (from (suc a) n)) ≡ x ∷ F
    go (inl e) with_tail with_all =
        let q : a ≡ x = eqb-true a x e in
        let r : keep (λ v. any (eqb v) (x ∷ F)) (from (suc a) n) ≡ F =
        keep_cong _ _ (from (suc a) n) (λ v i. rw (ne_eqb v x (λ z. omega (arith, from_at (suc a) n i))))
        ∙ with_tail (λ k i. omega (arith, s.0 k i, b k (mathlib.Core.List.Memᴰ.tail i)))
        in
        rw (e, r, q)
    go (inr e) with_tail with_all =
        let ne : a ≡ x → ⊥ = eqb-false a x e in
        rw (e, any_none (eqb a) F (λ k i. ne_eqb a k (λ z. omega (arith, s.0 k i, b x (mathlib.Core.List.Memᴰ.head refl)))))
        (with_all (λ k i. bound k (mathlib.Core.List.Memᴰ.cases_cons i)))
      where
        bound : (k : ℕ) → (k ≡ x) ⊎ Memᴰ k F → (suc a ≤ k) × (k < suc a + n)
        bound k (inl z) = let ne : a ≡ x → ⊥ = eqb-false a x e in omega (arith, b x (mathlib.Core.List.Memᴰ.head refl))
        bound k (inr i) = omega (arith, s.0 k i, b x (mathlib.Core.List.Memᴰ.head refl), b k (mathlib.Core.List.Memᴰ.tail i))

pub form_of_holds : (w : ℕ) (F : List ℕ) → Valid w F → form_of w (holds F) ≡ F
unfolding form_of
form_of_holds w F ok =
    keep_cong _ _ (from 0 (2 ^ w)) (λ v i. sym (member_minimal w F ok v))
    ∙ keep_members (2 ^ w) 0 F (valid_asc w F ok) (λ k i. (zero-le, omega (arith, valid_terms w F ok k i)))

pub form_cong : (w : ℕ) (f g : ℕ → Bool) → ((v : ℕ) → v < 2 ^ w → f v ≡ g v) → form_of w f ≡ form_of w g
unfolding form_of
form_cong w f g h = keep_cong _ _ (from 0 (2 ^ w)) (λ v i. minimal_cong f g v (λ u l. h u (omega (arith, from_at 0 (2 ^ w) i))))

-- two valid forms with one function are one list
pub same_form : (w : ℕ) (F G : List ℕ) → Valid w F → Valid w G → ((v : ℕ) → v < 2 ^ w → holds F v ≡ holds G v) → F ≡ G
same_form w F G p q h = sym (form_of_holds w F p) ∙ form_cong w (holds F) (holds G) h ∙ form_of_holds w G q

-- ---- the form of a positive function

pub holds_up : (F : List ℕ) (u v : ℕ) → within u v ≡ true → holds F u ≡ true → holds F v ≡ true
unfolding holds
holds_up F u v e h = let s = any_at (λ m. within m u) F h in any_by (λ m. within m v) s.1 (within_trans s.0 u v s.2 e)

-- the function of any form is positive
pub holds_positive : (w : ℕ) (F : List ℕ) → Positive w (holds F)
holds_positive w F u v l e h = holds_up F u v e h

module _ (w : ℕ) (f : ℕ → Bool) where
  step : (v : ℕ) → v < 2 ^ w → f v ≡ true → ((u : ℕ) → u < v → f u ≡ true → holds (form_of w f) u ≡ true) → holds (form_of w f) v ≡ true
  unfolding form_of
  step v b p below = go (which (minimal f v))
    where
      go : (minimal f v ≡ true) ⊎ (minimal f v ≡ false) → holds (form_of w f) v ≡ true
      go (inl e) =
          unfold holds in any_by (λ m. within m v) (keep_mem (minimal f) (from_mem 0 (2 ^ w) zero-le (omega arith)) e) (within_refl v)
      go (inr e) = let r = minimal_less f v p e in holds_up (form_of w f) r.0 v r.3 (below r.0 r.1 r.2)

  descend : (n v : ℕ) → v < n → v < 2 ^ w → f v ≡ true → holds (form_of w f) v ≡ true
  descend zero v l b p = absurd (omega arith)
  descend (suc n) v l b p = step v b p (λ u k q. descend n u (omega arith) (omega arith) q)

  pub holds_form : Positive w f → (v : ℕ) → v < 2 ^ w → holds (form_of w f) v ≡ f v
  unfolding holds form_of
  holds_form pos v b = same_test to (descend (suc v) v (omega arith) b)
    where
      to : holds (form_of w f) v ≡ true → f v ≡ true
      to e =
          let s = any_at (λ m. within m v) (form_of w f) e in
          let k = keep_at (minimal f) (from 0 (2 ^ w)) s.1 in
          pos s.0 v b s.2 (minimal_one f s.0 k.1)

  form_valid_from : (n a : ℕ) → a + n ≤ 2 ^ w → Valid w (keep (minimal f) (from a n))
  unfolding keep from
  form_valid_from zero a b = tt
  form_valid_from (suc n) a b = go (which (minimal f a)) (form_valid_from n (suc a) (omega arith))
    where
      go : (minimal f a ≡ true) ⊎ (minimal f a ≡ false) → Valid w (keep (minimal f) (from (suc a) n))
          → Valid w (put (minimal f a) a (keep (minimal f) (from (suc a) n)))
      go (inl e) ih = rw e (omega arith, λ k i. later k (keep_at (minimal f) (from (suc a) n) i), ih)
        where
          later : (k : ℕ) → Memᴰ k (from (suc a) n) × (minimal f k ≡ true) → (a < k) × (within a k ≡ false)
          later k r = (omega (arith, from_at (suc a) n r.0), no_within k r (which (within a k)))
            where
              no_within : (k : ℕ) → Memᴰ k (from (suc a) n) × (minimal f k ≡ true) → (within a k ≡ true) ⊎ (within a k ≡ false)
                  → within a k ≡ false
              no_within k r (inl q) = absurd (minimal_none f a k r.1 (omega (arith, from_at (suc a) n r.0)) (minimal_one f a e) q)
              no_within k r (inr q) = q
      go (inr e) ih = rw e ih

  pub form_valid : Valid w (form_of w f)
  unfolding form_of
  form_valid = form_valid_from (2 ^ w) 0 (omega arith)

-- ---- validity and the form of a function, by tests that compute

unfoldable pub sound : ℕ → List ℕ → Bool
sound w [] = true
sound w (m ∷ f) = ltb m (2 ^ w) && (all (λ k. ltb m k && not (within m k)) f && sound w f)

pub sound_valid : (w : ℕ) (F : List ℕ) → sound w F ≡ true → Valid w F
unfolding sound
sound_valid w [] e = tt
sound_valid w (m ∷ f) e =
    let r = and_right (ltb m (2 ^ w)) _ e in (
      ltb-true m (2 ^ w) (and_left _ _ e),
      λ k i. (let q = all_at (λ k. ltb m k && not (within m k)) (and_left _ _ r) i in
          (ltb-true m k (and_left _ _ q), not-true _ (and_right (ltb m k) _ q))),
      sound_valid w f (and_right (all (λ k. ltb m k && not (within m k)) f) _ r),
    )

unfoldable pub alike : Bool → Bool → Bool
alike true b = b
alike false b = not b

pub alike_is : (a b : Bool) → alike a b ≡ true → a ≡ b
unfolding alike
alike_is true b e = sym e
alike_is false b e = sym (not-true b e)

-- one test for a form: it is sound, and its function is f
unfoldable pub is_form : ℕ → (ℕ → Bool) → List ℕ → Bool
is_form w f F = sound w F && all (λ v. alike (f v) (holds F v)) (from 0 (2 ^ w))

pub is_form_lem : (w : ℕ) (f : ℕ → Bool) (F : List ℕ) → is_form w f F ≡ true → form_of w f ≡ F
unfolding is_form
is_form_lem w f F e =
    form_cong w f (holds F)
    (λ v l. alike_is (f v) (holds F v)
    (all_at (λ v. alike (f v) (holds F v)) (and_right (sound w F) _ e) (from_mem 0 (2 ^ w) zero-le (omega arith))))
    ∙ form_of_holds w F (sound_valid w F (and_left (sound w F) _ e))
