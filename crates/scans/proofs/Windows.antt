-- The one window, carried along a scan that stands between two values: how samples come in, and what is made of it at a sample; and the filter
-- that this is by an ends rule.
-- Assumes nothing.
use mathlib.Core.Path.{◌≡◌, refl, sym, ap, ◌∙◌, fun_ext}
use mathlib.Core.List.{List}
use Prim.Native.Nat.{ℕ, suc, ◌+◌, ◌<◌}
use native.Mathlib.Omega.{arith}
use lib.IntN.{ℤ, pos, sub_ℕ, ◌+ℤ◌, +ℤ_comm}
use lib.ListN.{length, get_or, replicate}
use Rattle.limits.specs.Limits.{reach, width, top}
use Rattle.theory.specs.Lists.{tab}
use Rattle.theory.specs.Orders.{counts}
use Rattle.theory.specs.Forms.{Valid, value}
use Rattle.theory.specs.Signals.{Ends, between, window, wide, seen, filtered_at}
use Rattle.theory.proofs.Lists.{get_or_inside, get_or-tab}
use Rattle.theory.proofs.Differences.{sub_high, pos_add}
use Rattle.theory.proofs.Forms.{value_agree}
use Rattle.theory.proofs.Canon.{valid_terms}
use Rattle.theory.proofs.Signals.{before, after, endless-between, window_fair}
use Rattle.theory.proofs.Demands.{Samples, filtered_value}
use Rattle.windows.specs.Columns.{position_in}
use Rattle.windows.proofs.Columns.{position_is}
use Rattle.scans.specs.Private.{carried, moved_on, value_around}
use Rattle.scans.proofs.Carried.{carried-next, carried_left, seen_middle}

-- k is the column in which position i stands, as the code has it
pub column_lt : (i k : ℕ) → k ≡ window.column i → i < width → k < width
unfolding wide window
column_lt i k is b = rw is (window_fair.column_lt i b)

-- k is the middle position
pub middle_lt : {k : ℕ} → k ≡ position_in reach → k < width
unfolding wide window
middle_lt is = rw (is ∙ position_is reach (omega arith)) (window_fair.position_lt reach (omega arith))

module _ (l r : ℕ) (s : List ℕ) where
  -- what it carries at n - c
  abbrev pub carried_at : ℕ → ℕ → List ℕ
  carried_at n c = carried window (between l r s) (sub_ℕ n c)

  -- before anything has come in
  pub none_in : replicate width l ≡ carried_at 0 (suc reach)
  unfolding tab wide window
  none_in = carried_left window window_fair l r s

  -- sample k comes in as it goes on from n - c, or what stands right of the scan
  pub one_in : (n c k : ℕ) {near : List ℕ} → n + suc reach ≡ c + k → near ≡ carried_at n c
      → moved_on window near (get_or s k r) ≡ carried_at (n + 1) c
  unfolding between window
  one_in n c k {near} e is =
      let g = between l r s in
      let on : (m : ℕ) → sub_ℕ n c +ℤ pos m ≡ sub_ℕ (m + n) c = λ m. +ℤ_comm (sub_ℕ n c) (pos m) ∙ pos_add m n c in
      let arriving : g (sub_ℕ n c +ℤ pos (suc reach)) ≡ get_or s k r =
      ap g (on (suc reach) ∙ sub_high (suc reach + n) c (omega arith) ∙ ap pos (omega arith)) in
      rw (is, ← arriving)
      (carried-next window window_fair g (sub_ℕ n c) ∙ ap (carried window g) (on 1 ∙ ap (λ (m : ℕ). sub_ℕ m c) (omega arith)))

  -- what it carries at x, and what is made of it there
  module _ (x : ℕ) {near : List ℕ} (is : near ≡ carried_at (x + 1) 1) where
    near_at : (d i : ℕ) → i < width → get_or near i d ≡ seen window (between l r s) (pos x) i
    unfolding carried wide window
    near_at d i b =
        let here : sub_ℕ (x + 1) 1 ≡ pos x = sub_high (x + 1) 1 (omega arith) ∙ ap pos (omega arith) in
        rw (is, here) (get_or-tab d width _ i b)

    -- the form's value on it
    value_here : (ts : List ℕ) → value counts width 0 top ts (λ i. get_or near i 0) ≡ value_around l r ts s x
    unfolding value_around
    value_here ts = value_agree counts width 0 top ts _ _ (near_at 0)

    -- the sample itself stands in the middle
    middle_here : x < length s → get_or near (position_in reach) 0 ≡ get_or s x 0
    unfolding between window
    middle_here h =
        near_at 0 (position_in reach) (middle_lt refl)
        ∙ ap (seen window (between l r s) (pos x)) (position_is reach (omega arith))
        ∙ seen_middle window window_fair (between l r s) x
        ∙ get_or_inside s x r 0 h

-- the loops keep: near is what the window sees just before x
pub record Carries (l r : ℕ) (s : List ℕ) (x : ℕ) (near : List ℕ) : Type 0 where
  pub is : near ≡ carried_at l r s x 1

-- a turn: it moves on to x, with the cleaned and the raw sample that it gives there
module _ {l r : ℕ} {s : List ℕ} {x : ℕ} {near here : List ℕ} (then : Carries l r s x near)
    (moved : here ≡ moved_on window near (get_or s (x + reach) r)) where
  pub here_in : Carries l r s (x + 1) here
  here_in = record { is = moved ∙ one_in l r s x 1 (x + reach) (omega arith) then.is }

  pub cleaned_in : (ts : List ℕ) {cleaned : ℕ} → cleaned ≡ value counts width 0 top ts (λ i. get_or here i 0) → cleaned ≡ value_around l r ts s x
  cleaned_in ts v = v ∙ value_here l r s x here_in.is ts

  pub raw_in : {raw : ℕ} → raw ≡ get_or here (position_in reach) 0 → x < length s → raw ≡ get_or s x 0
  raw_in m h = m ∙ middle_here l r s x here_in.is h

-- what the form gives between the values of an ends rule is the filter
pub value_filter : (ends : Ends) (ts s : List ℕ) {l r : ℕ} → l ≡ before 0 ends s → r ≡ after 0 ends s → Valid width ts → Samples s
    → value_around l r ts s ≡ filtered_at ends ts s
unfolding value_around
value_filter ends ts s left right form small =
    rw (left, right) (fun_ext (λ x.
    ap (λ (g : ℤ → ℕ). value counts width 0 top ts (seen window g (pos x))) (sym (endless-between 0 ends s))
    ∙ sym (filtered_value ends ts s (valid_terms width ts form) small x)))
