-- The list, piece by piece: a list that is accepted lies whole at the start of the slice, so the names that are opened are those that
-- were judged. Assumes nothing.
use mathlib.Core.Path.{◌≡◌, refl, sym, ap, subst, ◌∙◌}
use mathlib.Core.Bool.{true, false, cond}
use mathlib.Core.List.{List, [], ◌∷◌, ◌++◌, flatten, foldl-append, append-nil, append_assoc}
use mathlib.Core.Logic.{◌⊎◌, inl, inr}
use Prim.Native.Nat.{ℕ, ◌+◌, ◌-◌, ◌≤◌, ◌<◌}
use native.Mathlib.Omega.{arith}
use lib.Dec.{ltb}
use lib.ListN.{length, take, drop, length-append}
use lib.Seq.{take-add, length-take-le}
use borrow.Author.Tests.{ltb-true, ltb-false}
use Rattle.limits.specs.Limits.{longest_list}
use Rattle.theory.proofs.Tests.{which}
use Rattle.std.specs.Prelude.{Ok}
use Rattle.lists.specs.declared.Judge.{Judge}
use Rattle.lists.specs.Judge.{fresh, judged, verdict_of}
use Rattle.lists.specs.Names.{list_checked}
use Rattle.lists.proofs.Cuts.{cut_anywhere}
use Rattle.lists.proofs.Sizes.{accepted_short}
use Rattle.system.specs.Reads.{ReadsOn}
use Rattle.night.specs.Private.{next_place, Judged, Accepts}

-- one piece more at the end of the text
flatten_more : (pieces : List (List ℕ)) (piece : List ℕ) → flatten (pieces ++ piece ∷ []) ≡ flatten pieces ++ piece
unfolding flatten
flatten_more [] piece = append-nil piece
flatten_more (first ∷ pieces) piece = ap (λ (rest : List ℕ). first ++ rest) (flatten_more pieces piece) ∙ sym (append_assoc first (flatten pieces) piece)

-- before the first piece
pub none_judged : (slice : List ℕ) (judge : Judge) → judge ≡ fresh → Judged slice 0 judge
unfolding flatten
none_judged slice judge e = ([], e, inl refl)

pub place_within : (bytes room : ℕ) → next_place bytes room ≤ room
unfolding next_place
place_within bytes room = go (which (ltb bytes room))
  where
    go : (ltb bytes room ≡ true) ⊎ (ltb bytes room ≡ false) → cond (ltb bytes room) bytes 0 ≤ room
    go (inl e) = rw e (omega (arith, ltb-true bytes room e))
    go (inr e) = rw e (omega arith)

module _ (old new : List ℕ) (bytes n : ℕ) where
  -- behind the bytes: the text goes on
  more_text : (text : List ℕ) → bytes ≤ n → take bytes new ≡ take bytes old → text ≡ take bytes old
      → text ++ take (n - bytes) (drop bytes new) ≡ take n new
  more_text text h kept e =
      let all : bytes + (n - bytes) ≡ n = omega arith in
      ap (λ (front : List ℕ). front ++ take (n - bytes) (drop bytes new)) (e ∙ sym kept)
      ∙ sym (take-add bytes (n - bytes) new)
      ∙ ap (λ (k : ℕ). take k new) all

  -- a text that is too long stays so
  still_long : (text piece : List ℕ) → longest_list < length text → longest_list < length (text ++ piece)
  still_long text piece h = omega (arith, length-append text piece)

  -- what the read gave lies behind the place
  pub piece_behind : (place : ℕ) → place ≡ next_place bytes (length old) → ReadsOn place old new n → place ≤ n
  piece_behind place e reads = omega (arith, e, place_within bytes (length old), reads.enough)

  pub piece-judged : (judge after : Judge) (place : ℕ) → length old ≡ longest_list + 1 → bytes ≤ length old → Judged old bytes judge
      → place ≡ next_place bytes (length old) → ReadsOn place old new n → after ≡ judged judge (take (n - place) (drop place new))
      → Judged new n after
  unfolding next_place
  piece-judged judge after place size within (pieces, e, lies) at reads gone =
      subst (λ (j : Judge). Judged new n j) (sym gone) (subst Goal (sym at) (go (which (ltb bytes (length old)))) reads)
    where
      Goal : ℕ → Type 0
      Goal place = ReadsOn place old new n → Judged new n (judged judge (take (n - place) (drop place new)))

      text : List ℕ
      text = flatten pieces

      Lies : List ℕ → Type 0
      Lies text = (text ≡ take n new) ⊎ (longest_list < length text)

      -- the pieces with one more
      joined : (piece : List ℕ) → Lies (text ++ piece) → Judged new n (judged judge piece)
      joined piece here = (
        pieces ++ piece ∷ [],
        ap (λ (j : Judge). judged j piece) e ∙ sym (foldl-append judged fresh pieces (piece ∷ [])),
        subst Lies (sym (flatten_more pieces piece)) here,
      )

      behind : bytes < length old → Goal bytes
      behind h reads = joined (take (n - bytes) (drop bytes new)) (here lies)
        where
          here : (text ≡ take bytes old) ⊎ (longest_list < length text) → Lies (text ++ take (n - bytes) (drop bytes new))
          here (inl same) = inl (more_text text (omega (arith, reads.enough)) reads.kept same)
          here (inr long) = inr (still_long text (take (n - bytes) (drop bytes new)) long)

      again : length old ≤ bytes → Goal 0
      again h reads = joined (take (n - 0) (drop 0 new)) (inr (still_long text (take (n - 0) (drop 0 new)) (long lies)))
        where
          long : (text ≡ take bytes old) ⊎ (longest_list < length text) → longest_list < length text
          long (inl same) = let k : length text ≡ bytes = ap length same ∙ length-take-le bytes old within in omega (arith, k, size)
          long (inr h') = h'

      go : (ltb bytes (length old) ≡ true) ⊎ (ltb bytes (length old) ≡ false) → Goal (cond (ltb bytes (length old)) bytes 0)
      go (inl t) = rw t (behind (ltb-true bytes (length old) t))
      go (inr f) = rw f (again (ltb-false bytes (length old) f))

-- pieces of a text that is accepted are not too long, so they are the slice's
pub judged_accepts : (slice : List ℕ) (bytes : ℕ) (judge : Judge) → Judged slice bytes judge → Accepts slice bytes judge
judged_accepts slice bytes judge (pieces, e, lies) fine = go lies
  where
    whole : list_checked (flatten pieces) ≡ Ok tt
    whole = sym (cut_anywhere pieces) ∙ sym (ap verdict_of e) ∙ fine

    go : (flatten pieces ≡ take bytes slice) ⊎ (longest_list < length (flatten pieces)) → list_checked (take bytes slice) ≡ Ok tt
    go (inl same) = sym (ap list_checked same) ∙ whole
    go (inr long) = absurd (omega (arith, accepted_short (flatten pieces) whole))
