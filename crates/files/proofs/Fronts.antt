-- The form check stops early: of a list longer than every form, its front decides.
-- Assumes nothing.
use Rattle.std.specs.Prelude.{Err}
use Rattle.refusals.specs.declared.Refusal.TheVariants.{BadTerm}
use mathlib.Core.Path.{◌≡◌, sym, ap, ◌∙◌}
use mathlib.Core.Bool.{true, false}
use mathlib.Core.List.{List}
use mathlib.Core.Logic.{◌⊎◌, inl, inr}
use Prim.Native.Nat.{ℕ, ◌+◌, ◌*◌, ◌^◌, ◌<◌, ◌≤◌, min}
use native.Mathlib.Omega.{arith}
use lib.Dec.{ltb}
use lib.ListN.{length, take}
use lib.Seq.{take_all, length-take-le}
use borrow.Author.Tests.{lt-ltb, ltb-true, ltb-false}
use Rattle.theory.specs.Lists.{first, any_below}
use Rattle.theory.specs.Forms.{is_bad}
use Rattle.theory.proofs.Tests.{which}
use Rattle.theory.proofs.Searches.{first_cong, first_more}
use Rattle.theory.proofs.Slices.{take-tab}
use Rattle.theory.proofs.Valid.{long_bad, bad_front}
use Rattle.forms.specs.Check.{terms_checked, form_checked}
use Rattle.limits.specs.Limits.{word_bytes}
use Rattle.files.specs.Bytes.{word_at, words_from}

module _ (w : ℕ) where
  -- 7 at the first bad term, whatever the length
  bad_refused : (ts : List ℕ) → any_below (is_bad w ts) (length ts) ≡ true
      → form_checked w ts ≡ Err (BadTerm (first (is_bad w ts) (length ts)))
  unfolding form_checked terms_checked
  bad_refused ts e = rw e

  pub front_decides : (n : ℕ) (ts : List ℕ) → 2 ^ w < n → form_checked w (take n ts) ≡ form_checked w ts
  unfolding any_below
  front_decides n ts h = go (which (ltb n (length ts)))
    where
      cut : n < length ts → form_checked w (take n ts) ≡ form_checked w ts
      cut l =
          let p = is_bad w (take n ts) in
          let q = is_bad w ts in
          let len : length (take n ts) ≡ n = length-take-le n ts (omega arith) in
          let bad : any_below p (length (take n ts)) ≡ true = long_bad w (take n ts) (omega arith) in
          let early : first p (length (take n ts)) < length (take n ts) = ltb-true _ _ bad in
          let same : first p (length (take n ts)) ≡ first q n = rw len (first_cong p q n (λ i b. bad_front w n ts i b)) in
          let more : first q (length ts) ≡ first q n = first_more q n (length ts) (omega arith) (omega arith) in
          bad_refused (take n ts) bad
          ∙ ap (λ (k : ℕ). Err (BadTerm k)) (same ∙ sym more)
          ∙ sym (bad_refused ts (lt-ltb (first q (length ts)) (length ts) (omega arith)))

      go : (ltb n (length ts) ≡ true) ⊎ (ltb n (length ts) ≡ false) → form_checked w (take n ts) ≡ form_checked w ts
      go (inl e) = cut (ltb-true n (length ts) e)
      go (inr e) = ap (form_checked w) (take_all n ts (ltb-false n (length ts) e))

  -- so does as much of the front as there is
  pub front_enough : (m n : ℕ) (ts : List ℕ) → m ≡ min (length ts) n → 2 ^ w < n → form_checked w (take m ts) ≡ form_checked w ts
  front_enough m n ts e h = go (which (ltb n (length ts)))
    where
      go : (ltb n (length ts) ≡ true) ⊎ (ltb n (length ts) ≡ false) → form_checked w (take m ts) ≡ form_checked w ts
      go (inl l) = let l : n < length ts = ltb-true n (length ts) l in let same : m ≡ n = omega arith in rw same (front_decides n ts h)
      go (inr l) = let l : length ts ≤ n = ltb-false n (length ts) l in ap (form_checked w) (take_all m ts (omega arith))

  -- so do the first words in a file
  pub words_decide : (n : ℕ) (f : List ℕ) (at m : ℕ) → 2 ^ w < n
      → form_checked w (words_from f at (min m n)) ≡ form_checked w (words_from f at m)
  unfolding words_from
  words_decide n f at m h = rw (← take-tab n m (λ i. word_at f (at + word_bytes * i))) (front_decides n _ h)
