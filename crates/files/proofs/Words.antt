-- Numbers and their bytes: what is written reads as itself, and bytes that are read are written as themselves.
-- Assumes nothing.
use mathlib.Core.Path.{◌≡◌, refl, sym, ap, ap₂, ◌∙◌}
use mathlib.Core.List.{List, [], ◌∷◌, ◌++◌, append_assoc}
use Prim.Native.Nat.{ℕ, zero, suc, ◌+◌, ◌*◌, ◌/◌, ◌%◌, ◌≤◌, ◌<◌}
use native.Mathlib.Nat.{le_of_suc-le-suc, not-suc-le-zero}
use native.Mathlib.Numerals.{add-one}
use native.Mathlib.Omega.{arith}
use lib.ListN.{length, get_or, take, drop}
use lib.Seq.{drop-cons, get_or-append-add, ext_get_or}
use Rattle.theory.specs.Lists.{tab}
use Rattle.theory.proofs.Lists.{tab-suc, get_or-tab}
use Rattle.theory.proofs.Slices.{parts}
use Rattle.limits.specs.Limits.{word_bytes}
use Rattle.files.specs.Bytes.{two_bytes, four_bytes, in_words, word_at, long_at, words_from}
use Rattle.files.specs.Causes.{Bytes}
use Rattle.files.proofs.Layouts.{length_words}

-- ---- behind a front, places move by its length

pub word_behind : (p l : List ℕ) (k : ℕ) → word_at (p ++ l) (length p + k) ≡ word_at l k
unfolding word_at
word_behind p l k =
    let e : length p + k + 1 ≡ length p + (k + 1) = omega arith in
    rw (e, get_or-append-add p l k 0, get_or-append-add p l (k + 1) 0)

pub long_behind : (p l : List ℕ) (k : ℕ) → long_at (p ++ l) (length p + k) ≡ long_at l k
unfolding long_at
long_behind p l k =
    let e : length p + k + 2 ≡ length p + (k + 2) = omega arith in
    rw (e, word_behind p l k, word_behind p l (k + 2))

-- ---- what is written reads as itself

word_in : (xs q : List ℕ) (i : ℕ) → i < length xs → word_at (in_words xs ++ q) (2 * i) ≡ get_or xs i 0
unfolding word_at in_words two_bytes
word_in [] q i h = absurd (not-suc-le-zero h)
word_in (x ∷ xs) q zero h = omega arith
word_in (x ∷ xs) q (suc i) h =
    let e : 2 * suc i ≡ suc (suc (2 * i)) = omega arith in
    rw (e, add-one) (rw add-one at (word_in xs q i (le_of_suc-le-suc h)))

pub words_back : (p xs q : List ℕ) → words_from (p ++ (in_words xs ++ q)) (length p) (length xs) ≡ xs
unfolding words_from
words_back p xs q =
    let f : List ℕ = p ++ (in_words xs ++ q) in
    let len = length_words f (length p) (length xs) in
    ext_get_or 0 (words_from f (length p) (length xs)) xs len
    (λ i h.
    let l : i < length xs = omega arith in
    get_or-tab 0 (length xs) (λ k. word_at f (length p + word_bytes * k)) i l ∙ word_behind p (in_words xs ++ q) (2 * i) ∙ word_in xs q i l)

-- ---- bytes that are read are written as themselves

pub in-words-append : (xs ys : List ℕ) → in_words (xs ++ ys) ≡ in_words xs ++ in_words ys
unfolding in_words
in-words-append [] ys = refl
in-words-append (x ∷ xs) ys = rw (in-words-append xs ys) (sym (append_assoc (two_bytes x) (in_words xs) (in_words ys)))

module _ (f : List ℕ) (ok : Bytes f) where
  pub word_bytes_lem : (at : ℕ) → at + 1 < length f → two_bytes (word_at f at) ≡ take 2 (drop at f)
  unfolding two_bytes word_at
  word_bytes_lem at h =
      rw (drop-cons f at 0 (omega arith), drop-cons f (suc at) 0 (omega arith), add-one at)
      (ap₂ (λ (a b : ℕ). a ∷ b ∷ []) (omega (arith, ok at, ok (suc at))) (omega (arith, ok at, ok (suc at))))

  pub long_bytes_lem : (at : ℕ) → at + 3 < length f → four_bytes (long_at f at) ≡ take 4 (drop at f)
  unfolding four_bytes long_at
  long_bytes_lem at h =
      let small : word_at f at < 65536 = unfold word_at in omega (arith, ok at, ok (at + 1)) in
      let low : (word_at f at + 65536 * word_at f (at + 2)) % 65536 ≡ word_at f at = omega arith in
      let high : (word_at f at + 65536 * word_at f (at + 2)) / 65536 ≡ word_at f (at + 2) = omega arith in
      rw (low, high, word_bytes_lem at (omega arith), word_bytes_lem (at + 2) (omega arith)) (parts f at (at + 2) 2 2 refl)

  pub words_bytes : (at n : ℕ) → at + 2 * n ≤ length f → in_words (words_from f at n) ≡ take (2 * n) (drop at f)
  unfolding words_from tab in_words two_bytes
  words_bytes at zero h = refl
  words_bytes at (suc n) h =
      let w : ℕ → ℕ = λ i. word_at f (at + word_bytes * i) in
      let e : 2 * n + 2 ≡ 2 * suc n = omega arith in
      ap in_words (tab-suc n w)
      ∙ in-words-append (tab n w) (w n ∷ [])
      ∙ ap₂ ◌++◌ (words_bytes at n (omega arith)) (word_bytes_lem (at + 2 * n) (omega arith))
      ∙ parts f at (at + 2 * n) (2 * n) 2 refl
      ∙ ap (λ (k : ℕ). take k (drop at f)) e
