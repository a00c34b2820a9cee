-- Words as the numbers that they are, numbers as the bytes that the library makes of them, and the trailer by both.
-- Assumes nothing.
use mathlib.Core.Path.{◌≡◌, refl, ap, ap₂, ◌∙◌}
use mathlib.Core.List.{List, [], ◌∷◌, ◌++◌}
use Prim.Native.Nat.{ℕ, zero, suc, ◌+◌, ◌-◌, ◌*◌, ◌/◌, ◌%◌, ◌^◌, ◌<◌, ◌≤◌}
use native.Mathlib.Omega.{arith}
use native.Mathlib.Numerals.{add-one}
use lib.ListN.{length, take, drop, get_or}
use lib.Seq.{drop-cons, length-take-le}
use Rattle.std.specs.Int.{w16, w32, from_le_bytes, to_le_bytes}
use Rattle.std.specs.Simd.{first_chunks}
use Rattle.theory.specs.Lists.{tab}
use Rattle.theory.proofs.Lists.{tab_cong}
use Rattle.limits.specs.Limits.{word_bytes, trailer_bytes}
use Rattle.files.specs.Bytes.{two_bytes, four_bytes, in_words, long_at, word_at, words_from}
use Rattle.files.specs.Private.{numbers, trailer_of}
use Rattle.files.specs.declared.Trailer.{Trailer}
use Rattle.files.proofs.Stores.{length-in_words}
use Rattle.files.proofs.Words.{in-words-append}
use borrow.Rule.Slice.PartMut.{put_mid}
use Rattle.std.proofs.Common.{length-drop, append_assoc, sym, drop-drop, take_at, set}
use Rattle.std.proofs.lemmas.List.{get_or-drop, map_more, take_more, drop_at, set_at}
use Rattle.files.specs.Layout.{samples_back, terms_back, term_count, samples_field, terms_field, count_field, mark_field}

-- a number to a word
pub length-numbers : (ws : List (List ℕ)) → length (numbers ws) ≡ length ws
length-numbers [] = refl
length-numbers (w ∷ ws) = ap suc (length-numbers ws)

pub two_is : (n : ℕ) → n < 2 ^ 16 → to_le_bytes w16 n ≡ two_bytes n
unfolding two_bytes
two_is n h = let high : n / 256 % 256 ≡ n / 256 = omega arith in rw high

pub four_is : (n : ℕ) → n < 2 ^ 32 → to_le_bytes w32 n ≡ four_bytes n
unfolding four_bytes two_bytes
four_is n h =
    let first : n % 65536 % 256 ≡ n % 256 = omega arith in
    let second : n % 65536 / 256 ≡ n / 256 % 256 = omega arith in
    let fourth : n / 65536 / 256 ≡ n / 16777216 % 256 = omega arith in
    rw (first, second, fourth)

pub numbers_chunks : (f : List ℕ) (at n : ℕ) → at + 2 * n ≤ length f → numbers (first_chunks 2 n (take (2 * n) (drop at f))) ≡ words_from f at n
unfolding words_from tab
numbers_chunks f at zero h = refl
numbers_chunks f at (suc n) h =
    let two : 2 * suc n ≡ suc (suc (2 * n)) = omega arith in
    let here : get_or f at 0 + get_or f (suc at) 0 * 256 ≡ word_at f at = unfold word_at in rw add-one (omega arith) in
    let place : at ≡ at + word_bytes * 0 = omega arith in
    let on = tab_cong n (λ k. word_at f (suc (suc at) + word_bytes * k)) (λ k. word_at f (at + word_bytes * suc k)) (λ k l. ap (word_at f) (omega arith)) in
    rw (drop-cons f at 0 (omega arith), drop-cons f (suc at) 0 (omega arith), two)
    (ap₂ {C = List ℕ} (λ x l. x ∷ l) (here ∙ ap (word_at f) place) (numbers_chunks f (suc (suc at)) n (omega arith) ∙ on))

-- the words of a part of the file
pub words_lie : (f : List ℕ) (at n : ℕ) (ws : List (List ℕ)) (part : List ℕ) → at + 2 * n ≤ length f → part ≡ take (2 * n) (drop at f)
    → ws ≡ first_chunks 2 (length part / 2) part → length ws ≡ length part / 2 → (numbers ws ≡ words_from f at n) × (length ws ≡ n)
words_lie f at n ws part h p e k =
    let long : length part ≡ 2 * n = ap length p ∙ length-take-le (2 * n) (drop at f) (omega (arith, length-drop at f)) in
    let half : length part / 2 ≡ n = omega arith in
    let chunks : ws ≡ first_chunks 2 n (take (2 * n) (drop at f)) = rw (half, p) at e in
    (ap numbers chunks ∙ numbers_chunks f at n h, k ∙ half)

-- the trailer by the numbers of the last bytes
pub trailer_read : (f t : List ℕ) (to_samples to_terms terms mark : ℕ) → trailer_bytes ≤ length f → t ≡ drop (length f - trailer_bytes) f
    → to_samples ≡ from_le_bytes w32 (get_or t 0 0 ∷ get_or t 1 0 ∷ get_or t 2 0 ∷ get_or t 3 0 ∷ [])
    → to_terms ≡ from_le_bytes w32 (get_or t 4 0 ∷ get_or t 5 0 ∷ get_or t 6 0 ∷ get_or t 7 0 ∷ [])
    → terms ≡ from_le_bytes w16 (get_or t 8 0 ∷ get_or t 9 0 ∷ []) → mark ≡ from_le_bytes w16 (get_or t 10 0 ∷ get_or t 11 0 ∷ [])
    → ◌≡◌ {A = Trailer} (record { to_samples = to_samples; to_terms = to_terms; terms = terms; mark = mark }) (trailer_of f)
unfolding samples_back terms_back term_count long_at word_at
trailer_read f t to_samples to_terms terms mark h e a b c d = λ i. record {
  to_samples = first i;
  to_terms = second i;
  terms = third i;
  mark = fourth i;
}
  where
    byte : (k at : ℕ) → length f - trailer_bytes + k ≡ at → get_or t k 0 ≡ get_or f at 0
    byte k at place =
        ap (λ (l : List ℕ). get_or l k 0) e ∙ get_or-drop (length f - trailer_bytes) f k 0 ∙ ap (λ (n : ℕ). get_or f n 0) place

    first : to_samples ≡ samples_back f
    first =
        let at = samples_field f in
        omega (arith, a, byte 0 at (omega arith), byte 1 (at + 1) (omega arith), byte 2 (at + 2) (omega arith), byte 3 (at + 2 + 1) (omega arith))

    second : to_terms ≡ terms_back f
    second =
        let at = terms_field f in
        omega (arith, b, byte 4 at (omega arith), byte 5 (at + 1) (omega arith), byte 6 (at + 2) (omega arith), byte 7 (at + 2 + 1) (omega arith))

    third : terms ≡ term_count f
    third = let at = count_field f in omega (arith, c, byte 8 at (omega arith), byte 9 (at + 1) (omega arith))

    fourth : mark ≡ word_at f (mark_field f)
    fourth = let at = mark_field f in omega (arith, d, byte 10 at (omega arith), byte 11 (at + 1) (omega arith))

-- ---- the loops

-- one number more is read
pub read_next : (ws : List (List ℕ)) (old out : List ℕ) (i v : ℕ) → i < length ws → i < length old → out ≡ numbers (take i ws) ++ drop i old
    → v ≡ from_le_bytes w16 (get_or ws i []) → set out i v ≡ numbers (take (i + 1) ws) ++ drop (i + 1) old
read_next ws old out i v h k e is =
    let long : length (numbers (take i ws)) ≡ i = length-numbers (take i ws) ∙ length-take-le i ws (omega arith) in
    let more : numbers (take (i + 1) ws) ≡ numbers (take i ws) ++ v ∷ [] =
    map_more (from_le_bytes w16) ws i [] h ∙ ap (λ (n : ℕ). numbers (take i ws) ++ n ∷ []) (sym is) in
    rw (more, e, add-one, drop-cons old i 0 k, set_at (numbers (take i ws)) (get_or old i 0) (drop (suc i) old) v i long)
    (sym (append_assoc (numbers (take i ws)) (v ∷ []) (drop (suc i) old)))

-- one number more is written
pub put_next : (ns old out word : List ℕ) (i k : ℕ) → i < length ns → k ≡ word_bytes → out ≡ in_words (take i ns) ++ drop (word_bytes * i) old
    → word ≡ two_bytes (get_or ns i 0) → put_mid (word_bytes * i) k out word ≡ in_words (take (i + 1) ns) ++ drop (word_bytes * (i + 1)) old
unfolding in_words two_bytes
put_next ns old out word i k h two e is =
    let front = in_words (take i ns) in
    let back = drop (word_bytes * i) old in
    let long : length front ≡ word_bytes * i = length-in_words (take i ns) ∙ ap (λ (n : ℕ). word_bytes * n) (length-take-le i ns (omega arith)) in
    let more : in_words (take (i + 1) ns) ≡ front ++ word =
    ap in_words (take_more ns i 0 h) ∙ in-words-append (take i ns) (get_or ns i 0 ∷ []) ∙ ap (λ (w : List ℕ). front ++ w) (sym is) in
    let on : word_bytes * i + word_bytes ≡ word_bytes * (i + 1) = omega arith in
    rw (more, e, two, take_at front back (word_bytes * i) long, drop_at front back (word_bytes * i) long, drop-drop word_bytes (word_bytes * i) old, on)
    (sym (append_assoc front word (drop (word_bytes * (i + 1)) old)))
