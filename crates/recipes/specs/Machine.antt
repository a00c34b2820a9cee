-- Step by step: what each step does to the signals held, the last one first. Written once, for whatever stands for a signal: endless
-- signals say what a recipe gives, and reaches whether it is accepted.
use Rattle.std.specs.Prelude.{cond, List, [], ◌∷◌, map, ℕ, ◌+◌, ◌/◌, ltb, length, ℤ, pos, neg_ℤ, ◌+ℤ◌}
use Rattle.std.proofs.Math.Option.{Option, none, some}
use Rattle.std.specs.Int.Signed.{le_z}
use Rattle.limits.specs.Limits.{most_signals}
use Rattle.theory.specs.Orders.{Order, larger, smaller}
use Rattle.theory.specs.Ranks.{Pick, the_smallest, the_largest, the_kth, pick}
use Rattle.theory.specs.Signals.{window, offsets, size, leftmost, rightmost}
use Rattle.recipes.specs.declared.Step.{Step}
use Rattle.recipes.specs.declared.Step.TheVariants.{Signal, Erode, Dilate, Open, Close, Rank, Median, Larger, Smaller}

-- what a kind of signals has: the scan, a pick around each x, and the larger and the smaller of two
pub record Machine (S : Type 0) : Type 0 where
  pub the_scan : S
  pub around : Pick → List ℤ → S → S
  pub the_larger : S → S → S
  pub the_smaller : S → S → S

module _ {S : Type 0} where
  -- s is added; none where it would be a ninth signal
  unfoldable pub added : S → List S → Option (List S)
  added s st = cond (ltb (length st) most_signals) (some (s ∷ st)) none

  -- the last signal is replaced; none where none is held
  unfoldable pub replaced : (S → S) → List S → Option (List S)
  replaced f [] = none
  replaced f (s ∷ st) = some (f s ∷ st)

  -- the last two are replaced by one; none where fewer are held
  unfoldable pub joined : (S → S → S) → List S → Option (List S)
  joined f [] = none
  joined f (s ∷ []) = none
  joined f (s ∷ t ∷ st) = some (f t s ∷ st)

  module _ (M : Machine S) where
    -- least g(x+b)
    unfoldable pub eroded : ℕ → S → S
    eroded B s = M.around the_smallest (offsets window B) s

    -- largest g(x-b)
    unfoldable pub dilated : ℕ → S → S
    dilated B s = M.around the_largest (map neg_ℤ (offsets window B)) s

    -- k-th largest of g(x+b)
    unfoldable pub ranked_by : ℕ → ℕ → S → S
    ranked_by k B s = M.around (the_kth k) (offsets window B) s

    -- the table of document 01, a line to a row
    unfoldable pub act : Step → List S → Option (List S)
    act Signal st = added M.the_scan st
    act (Erode B) st = replaced (eroded B) st
    act (Dilate B) st = replaced (dilated B) st
    act (Open B) st = replaced (λ s. dilated B (eroded B s)) st
    act (Close B) st = replaced (λ s. eroded B (dilated B s)) st
    act (Rank k B) st = replaced (ranked_by k B) st
    act (Median B) st = replaced (ranked_by ((size window B + 1) / 2) B) st
    act Larger st = joined M.the_larger st
    act Smaller st = joined M.the_smaller st

-- the machine on endless signals, the scan being g
unfoldable pub signals : {A : Type 0} → Order A → (ℤ → A) → Machine (ℤ → A)
signals O g = record {
  the_scan = g;
  around = λ p bs s x. pick O p (s x) (λ b. s (x +ℤ b)) bs;
  the_larger = λ s t x. larger O (s x) (t x);
  the_smaller = λ s t x. smaller O (s x) (t x);
}

-- the offsets that a signal can depend on, from lo to hi
pub record Reach : Type 0 where
  pub lo : ℤ
  pub hi : ℤ

-- the reach of the larger or the smaller of two signals: least lo to greatest hi
unfoldable pub both_reach : Reach → Reach → Reach
both_reach q r = record { lo = smaller le_z q.lo r.lo; hi = larger le_z q.hi r.hi }

-- the machine on reaches, the offsets lo to hi that a signal can depend on
unfoldable pub reaches : Machine Reach
reaches = record {
  the_scan = record { lo = pos 0; hi = pos 0 };
  around = λ p bs r. record { lo = r.lo +ℤ leftmost bs; hi = r.hi +ℤ rightmost bs };
  the_larger = both_reach;
  the_smaller = both_reach;
}
