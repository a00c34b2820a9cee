-- A run in pieces: a value depends on no sample that lies further away than the window reaches, so it is the same on a piece of the scan
-- that has those, between the same two values.
-- Assumes nothing.
use Rattle.std.specs.Prelude.{Ok}
use mathlib.Core.Path.{◌≡◌, refl, sym, ap, ap₂, ◌∙◌}
use mathlib.Core.List.{List, ◌++◌, append_assoc}
use mathlib.Core.Logic.{◌⊎◌, inl, inr}
use Prim.Native.Nat.{ℕ, ◌+◌, ◌-◌, ◌≤◌, ◌<◌, min}
use native.Mathlib.Omega.{arith}
use lib.IntN.{ℤ, pos, sub_ℕ, ◌+ℤ◌}
use lib.ListN.{length, get_or, take, drop, length-append, length-drop}
use lib.Seq.{length-take-le, get_or-take, get_or-drop, take_at, drop_at, drop-drop}
use borrow.Rule.Slice.PartMut.{mid_of, put_mid, Post-is}
use Rattle.limits.specs.Limits.{reach}
use Rattle.theory.specs.Lists.{tab}
use Rattle.theory.specs.Orders.{Order, counts}
use Rattle.theory.specs.Signals.{Window, window, between}
use Rattle.theory.proofs.Lists.{length-tab, get_or-tab, tab_cong}
use Rattle.theory.proofs.Plans.{Plan, meaning, translate, local}
use Rattle.theory.proofs.Differences.{side, sub_high, pos_add}
use Rattle.theory.proofs.Signals.{between_left, between_inside, between_right, column_of}
use Rattle.theory.proofs.Truth.{Fits, fits_inside}
use Rattle.theory.proofs.Fills.{Filled}
use Rattle.recipes.specs.Judge.{recipe_checked}
use Rattle.recipes.proofs.Plans.{plan_of, signal_plan}
use Rattle.recipes.proofs.Accepted.{plan_fits}
use Rattle.rows.specs.Private.{margin, part}
use Rattle.rows.proofs.Passes.{copied, copied_fits}
use Rattle.rows.proofs.Parts.{tab_split, mid_length}
use Rattle.runner.specs.Private.{made_between, row_between, PieceRun}

-- ---- which piece

-- the len elements from start on, of n, have all that lies within far of those from at to next
record Spans (far n at next start len : ℕ) : Type 0 where
  pub begins : start ≤ at
  pub ends : next ≤ start + len
  pub fits : start + len ≤ n
  pub left : (start ≡ 0) ⊎ (start + far ≤ at)
  pub right : (start + len ≡ n) ⊎ (next + far ≤ start + len)

spans : (far n at next start stop : ℕ) → at < next → next ≤ n → start ≡ at - far → stop ≡ min (next + far) n
    → Spans far n at next start (stop - start)
spans far n at next start stop more short from to = record {
  begins = omega arith;
  ends = omega arith;
  fits = omega arith;
  left = go (side at far);
  right = on (side n (next + far));
}
  where
    go : (at < far) ⊎ (far ≤ at) → (start ≡ 0) ⊎ (start + far ≤ at)
    go (inl a) = inl (omega arith)
    go (inr a) = inr (omega arith)

    on : (n < next + far) ⊎ (next + far ≤ n) → (start + (stop - start) ≡ n) ⊎ (next + far ≤ start + (stop - start))
    on (inl a) = inl (omega arith)
    on (inr a) = inr (omega arith)

-- ---- a plan on a piece

module _ {A : Type 0} (l r : A) (s : List A) (far at next start len : ℕ) (sp : Spans far (length s) at next start len) where
  abbrev piece : List A
  piece = mid_of start len s

  piece-length : length piece ≡ len
  piece-length = length-take-le len (drop start s) (omega (arith, length-drop start s, sp.fits))

  module _ (y : ℕ) (low : at ≤ start + y) (high : start + y < next) where
    -- one signal stands around the y-th element of the piece and around the same of the whole
    same_around : (k : ℕ) → k ≤ far + far → between l r s (sub_ℕ (start + (y + k)) far) ≡ between l r piece (sub_ℕ (y + k) far)
    same_around k near = go (side (y + k) far) (side (y + k) (far + len)) sp.left sp.right
      where
        go : (y + k < far) ⊎ (far ≤ y + k) → (y + k < far + len) ⊎ (far + len ≤ y + k)
            → (start ≡ 0) ⊎ (start + far ≤ at) → (start + len ≡ length s) ⊎ (next + far ≤ start + len)
            → between l r s (sub_ℕ (start + (y + k)) far) ≡ between l r piece (sub_ℕ (y + k) far)
        go (inl a) b (inl p) q = between_left l r s _ far (omega arith) ∙ sym (between_left l r piece _ far a)
        go (inl a) b (inr p) q = absurd (omega arith)
        go (inr a) (inl b) p q =
            let i : start + (y + k) - far ≡ start + (y + k - far) = omega arith in
            between_inside l r s l _ far (omega arith) (omega (arith, sp.fits))
            ∙ ap (λ (j : ℕ). get_or s j l) i
            ∙ sym (between_inside l r piece l _ far a (omega (arith, piece-length))
            ∙ get_or-take len (drop start s) _ l (omega arith)
            ∙ get_or-drop start s _ l)
        go (inr a) (inr b) p (inl q) =
            between_right l r s _ far (omega arith) ∙ sym (between_right l r piece _ far (omega (arith, piece-length)))
        go (inr a) (inr b) p (inr q) = absurd (omega arith)

    -- so a plan that fits a window that reaches so far has one value there
    piece_value : (O : Order A) (W : Window) → W.far ≡ far → (e : Plan) → Fits W e
        → meaning O e (between l r s) (pos (start + y)) ≡ meaning O e (between l r piece) (pos y)
    piece_value O W f e ok =
        translate O e (between l r s) (pos start) (pos y)
        ∙ local O e _ (between l r piece) (pos y) (λ d i.
        let k = column_of far d (rw f at (fits_inside W e ok d i)) in
        let here : pos y +ℤ d ≡ sub_ℕ (y + k.0) far = ap (λ (z : ℤ). pos y +ℤ z) (sym k.2) ∙ pos_add y k.0 far in
        ap (λ (z : ℤ). between l r s (pos start +ℤ z)) here
        ∙ ap (between l r s) (pos_add start (y + k.0) far)
        ∙ same_around k.0 (omega (arith, k.1))
        ∙ sym (ap (between l r piece) here))

-- ---- a recipe on a piece

-- an accepted recipe at the samples from at to next
module _ (l r : ℕ) (recipe s : List ℕ) (fine : recipe_checked recipe ≡ Ok tt)
    (at next start len : ℕ) (sp : Spans reach (length s) at next start len) where
  -- it has one value on the piece and on the whole
  value_in_piece : (y : ℕ) → at ≤ start + y → start + y < next
      → made_between l r recipe (mid_of start len s) (pos y) ≡ made_between l r recipe s (pos (start + y))
  unfolding made_between window
  value_in_piece y low high =
      ap (λ (g : ℤ → ℕ). g (pos y)) (signal_plan counts (between l r (mid_of start len s)) recipe)
      ∙ sym (piece_value l r s reach at next start len sp y low high counts window refl (plan_of recipe) (plan_fits recipe fine))
      ∙ sym (ap (λ (g : ℤ → ℕ). g (pos (start + y))) (signal_plan counts (between l r s) recipe))

  -- its value at one of them stands in the row of the piece
  row_value : (stack : List ℕ) → take (length (mid_of start len s) + margin) stack ≡ row_between l r recipe (mid_of start len s)
      → (i y : ℕ) → i ≡ y + reach → at ≤ start + y → start + y < next → get_or stack i 0 ≡ made_between l r recipe s (pos (start + y))
  unfolding row_between
  row_value stack row i y index low high =
      let m = length (mid_of start len s) + margin in
      let long : length (mid_of start len s) ≡ len = piece-length l r s reach at next start len sp in
      let inside : i < m = omega (arith, sp.ends) in
      let here : i - reach ≡ y = omega arith in
      sym (get_or-take m stack i 0 inside)
      ∙ ap (λ (x : List ℕ). get_or x i 0) row
      ∙ get_or-tab 0 m _ i inside
      ∙ ap (made_between l r recipe (mid_of start len s)) (sub_high i reach (omega arith) ∙ ap pos here)
      ∙ value_in_piece y low high

  -- and so do those at all of them
  row_values : (stack : List ℕ) → take (length (mid_of start len s) + margin) stack ≡ row_between l r recipe (mid_of start len s)
      → part (next - at) (reach + at - start) stack ≡ tab (next - at) (λ j. made_between l r recipe s (pos (at + j)))
  unfolding part
  row_values stack row =
      tab_cong (next - at) _ _ (λ j h.
      let sample : start + (at + j - start) ≡ at + j = omega (arith, sp.begins) in
      let low : at ≤ start + (at + j - start) = omega arith in
      let high : start + (at + j - start) < next = omega arith in
      row_value stack row _ (at + j - start) (omega (arith, sp.begins)) low high
      ∙ ap (λ (x : ℕ). made_between l r recipe s (pos x)) sample)

-- what a piece leaves in the slice
pub piece_run : (l r : ℕ) (recipe s stack out block : List ℕ) (at next start stop : ℕ)
    → recipe_checked recipe ≡ Ok tt → at < next → next ≤ length s
    → start ≡ at - reach → stop ≡ min (next + reach) (length s)
    → take (length (mid_of start (stop - start) s) + margin) stack ≡ row_between l r recipe (mid_of start (stop - start) s)
    → length out ≡ length s → reach + next ≤ start + length stack
    → block ≡ copied (reach + at - start) stack (mid_of at (next - at) out)
    → PieceRun l r recipe s at out (put_mid at (next - at) out block) next
piece_run l r recipe s stack out block at next start stop fine more short from to row same room e =
    let sp = spans reach (length s) at next start stop more short from to in
    let long : length (mid_of at (next - at) out) ≡ next - at = mid_length at (next - at) out (omega arith) in
    let fits : reach + at - start + length (mid_of at (next - at) out) ≤ length stack = omega (arith, sp.begins) in
    let is : block ≡ tab (next - at) (λ j. made_between l r recipe s (pos (at + j))) =
    e
    ∙ copied_fits (reach + at - start) stack (mid_of at (next - at) out) fits
    ∙ ap (λ (n : ℕ). part n (reach + at - start) stack) long
    ∙ row_values l r recipe s fine at next start (stop - start) sp stack row in
    record { more = more; short = short; out = ap₂ (λ (b c : List ℕ). take at out ++ (b ++ c)) is (Post-is at next out (omega arith)) }

-- ---- a loop that fills a list piece by piece

pub filled_piece : {A : Type 0} {f : ℕ → A} {old new : List A} {at : ℕ} → Filled f old new at → (next : ℕ) (new' : List A)
    → at < next → next ≤ length old
    → new' ≡ take at new ++ (tab (next - at) (λ j. f (at + j)) ++ drop next new) → Filled f old new' next
filled_piece {A} {f} {old} {new} {at} r next new' more most e =
    let long : length new' ≡ length (tab next f) + length (drop next old) = ap length is ∙ length-append (tab next f) (drop next old) in
    record { same = omega (arith, length-tab next f, length-drop next old); short = most; is = is }
  where
    k : ℕ
    k = next - at

    head : take at new ≡ tab at f
    head = ap (take at) r.is ∙ take_at (tab at f) (drop at old) at (length-tab at f)

    rest : drop next new ≡ drop next old
    rest =
        let z : next ≡ at + k = omega arith in
        ap (λ (n : ℕ). drop n new) z
        ∙ sym (drop-drop k at new)
        ∙ ap (drop k) (ap (drop at) r.is ∙ drop_at (tab at f) (drop at old) at (length-tab at f))
        ∙ drop-drop k at old
        ∙ ap (λ (n : ℕ). drop n old) (sym z)

    is : new' ≡ tab next f ++ drop next old
    is =
        let z : at + k ≡ next = omega arith in
        e
        ∙ ap₂ (λ (a b : List A). a ++ (tab k (λ j. f (at + j)) ++ b)) head rest
        ∙ sym (append_assoc (tab at f) (tab k (λ j. f (at + j))) (drop next old))
        ∙ ap (λ (a : List A). a ++ drop next old) (sym (tab_split at k f) ∙ ap (λ (n : ℕ). tab n f) z)
