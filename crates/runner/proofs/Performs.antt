-- What an accepted recipe's steps make of the stack: before each of them its rows are those of the plans that the steps before leave.
-- Assumes nothing.
use mathlib.Core.Path.{◌≡◌, refl, sym, ap, ◌∙◌, subst}
use mathlib.Core.Bool.{Bool, true, false, cond}
use mathlib.Core.List.{List, [], ◌∷◌, map}
use mathlib.Core.Logic.{◌⊎◌, inl, inr}
use mathlib.Core.Option.{none, some}
use Prim.Native.Nat.{ℕ, ◌+◌, ◌-◌, ◌*◌, ◌/◌, ◌≤◌, ◌<◌}
use native.Mathlib.Omega.{arith}
use lib.Dec.{ltb}
use lib.IntN.{ℤ, sub_ℕ}
use lib.ListN.{length, take, length-map}
use borrow.Author.Tests.{ltb-true, lt-ltb, le-leb}
use Rattle.limits.specs.Limits.{reach, step_bytes, most_signals}
use Rattle.theory.specs.Lists.{tab}
use Rattle.theory.specs.Orders.{counts, larger, smaller}
use Rattle.theory.specs.Signals.{between, window, size}
use Rattle.theory.proofs.Plans.{Plan, scan, meaning}
use Rattle.theory.proofs.Tests.{which, not_both}
use Rattle.theory.proofs.Lists.{tab_cong}
use Rattle.theory.proofs.Orders.{Lawful, Strict, counts_lawful, counts_strict}
use Rattle.refusals.specs.declared.Refusal.{Refusal}
use Rattle.std.specs.Prelude.{Ok, Err}
use Rattle.recipes.specs.declared.Step.{Step}
use Rattle.recipes.specs.declared.Step.TheVariants.{Signal, Erode, Dilate, Open, Close, Rank, Median, Larger, Smaller}
use Rattle.recipes.specs.Steps.{step_at}
use Rattle.recipes.specs.Machine.{added, replaced, joined, eroded, dilated, ranked_by, act}
use Rattle.recipes.specs.Judge.{recipe_checked}
use Rattle.recipes.proofs.Decodes.{IsSet, Sane}
use Rattle.recipes.proofs.Plans.{plans, plan_of, signal_plan}
use Rattle.recipes.proofs.Accepted.{AllFit, Underway, accepted_start, Advanced, accepted_turn, accepted_end}
use Rattle.rows.specs.declared.Change.{Change}
use Rattle.rows.specs.declared.Change.TheVariants as change
use Rattle.rows.specs.Private.{margin, Sound}
use Rattle.rows.specs.Rows.{widened, paired}
use Rattle.rows.specs.Changes.{is_sound, after_change}
use Rattle.rows.proofs.Rows.{row_of, pair_of, scan_row, paired_row}
use Rattle.rows.proofs.Changes.{plan_after, changed_row}
use Rattle.runner.specs.Private.{rows_in, made_between, row_between}
use Rattle.runner.specs.PrivateStacks.{performed, Ready}
use Rattle.runner.proofs.Written.{length_rows}

-- ---- the larger and the smaller of two, in either order

module _ {A : Type 0} (O : Lawful A) (strict : Strict O.leq) where
  turned : (a b : A) → (larger O.leq a b ≡ larger O.leq b a) × (smaller O.leq a b ≡ smaller O.leq b a)
  unfolding larger smaller
  turned a b = go (which (O.leq a b)) (which (O.leq b a))
    where
      go : (O.leq a b ≡ true) ⊎ (O.leq a b ≡ false) → (O.leq b a ≡ true) ⊎ (O.leq b a ≡ false)
          → (larger O.leq a b ≡ larger O.leq b a) × (smaller O.leq a b ≡ smaller O.leq b a)
      go (inl p) (inl q) = rw (p, q) (strict b a q p, strict a b p q)
      go (inl p) (inr q) = rw (p, q) (refl, refl)
      go (inr p) (inl q) = rw (p, q) (refl, refl)
      go (inr p) (inr q) = absurd (not_both (O.total a b p) q)

-- ---- a step whose fields are allowed is a sound change

rank_sound : (k B : ℕ) → IsSet B → 0 < k → k ≤ size window B → is_sound (change.Rank k B) ≡ true
unfolding is_sound
rank_sound k B h low few = rw (h, lt-ltb 0 k low, le-leb k (size window B) few)

-- ---- one step

never : {X : Type 0} {st : List Plan} → none ≡ some st → X
never h = let z : ◌≡◌ {A = ℕ} 0 1 = cc in absurd (omega arith)

module _ (l r : ℕ) (s : List ℕ) where
  -- the rows of some plans
  abbrev rows_of : List Plan → List (List ℕ)
  rows_of st = map (λ e. row_of e l r s) st

  -- some rows are there, and become others
  abbrev Does : Step → List Plan → List Plan → Type 0
  Does w st after = Ready w (length st) × (performed w l r s (rows_of st) ≡ some (rows_of after))

  add_does : (st after : List Plan) → added scan st ≡ some after → Does Signal st after
  unfolding added
  add_does st after h = rw (length-map st (λ e. row_of e l r s)) (go (which (ltb (length st) most_signals)))
    where
      go : (ltb (length st) most_signals ≡ true) ⊎ (ltb (length st) most_signals ≡ false)
          → (length st < most_signals)
          × (cond (ltb (length st) most_signals) (some (widened reach l r s ∷ rows_of st)) none ≡ some (rows_of after))
      go (inl e) =
          let q : scan ∷ st ≡ after = cc (rw e at h) in
          (ltb-true (length st) most_signals e, rw (e, ← q, scan_row l r s) refl)
      go (inr e) = never (rw e at h)

  change_does : (by : Change) → Sound by → (st after : List Plan) → AllFit st → AllFit after → replaced (plan_after by) st ≡ some after
      → ((0 < length st) × Sound by) × (replaced (after_change by l r) (rows_of st) ≡ some (rows_of after))
  unfolding replaced
  change_does by sound [] after ok left h = never h
  change_does by sound (e ∷ st) after ok left h =
      let q : after ≡ plan_after by e ∷ st = cc in
      let fits = (subst AllFit q left).0 in
      ((omega arith, sound), rw (q, changed_row l r s by sound e ok.0 fits) refl)

  -- two rows are paired in either order
  either_way : (high : Bool) (a b : Plan) → row_of (pair_of high a b) l r s ≡ row_of (pair_of high b a) l r s
  unfolding row_of meaning
  either_way true a b = tab_cong (length s + margin) _ _ (λ j k. (turned counts_lawful counts_strict _ _).0)
  either_way false a b = tab_cong (length s + margin) _ _ (λ j k. (turned counts_lawful counts_strict _ _).1)

  join_does : (high : Bool) (st after : List Plan) → joined (pair_of high) st ≡ some after
      → (1 < length st) × (joined (λ under last. paired high last under) (rows_of st) ≡ some (rows_of after))
  unfolding joined
  join_does high [] after h = never h
  join_does high (e ∷ []) after h = never h
  join_does high (e ∷ d ∷ st) after h =
      let q : after ≡ pair_of high d e ∷ st = cc in
      (omega arith, rw (q, paired_row l r s high e d, either_way high e d) refl)

  -- so a step leaves the rows of the plans that it leaves
  step_does : (step : Step) → Sane step → (st after : List Plan) → AllFit st → AllFit after → act plans step st ≡ some after
      → Does step st after
  unfolding act plans eroded dilated ranked_by is_sound
  step_does Signal sane st after ok left h = add_does st after h
  step_does (Erode B) sane st after ok left h = change_does (change.Erode B) sane st after ok left h
  step_does (Dilate B) sane st after ok left h = change_does (change.Dilate B) sane st after ok left h
  step_does (Open B) sane st after ok left h = change_does (change.Open B) sane st after ok left h
  step_does (Close B) sane st after ok left h = change_does (change.Close B) sane st after ok left h
  step_does (Rank k B) sane st after ok left h = change_does (change.Rank k B) (rank_sound k B sane.0 sane.1 sane.2) st after ok left h
  step_does (Median B) sane st after ok left h =
      let k = (size window B + 1) / 2 in
      change_does (change.Rank k B) (rank_sound k B sane.0 (omega arith) (omega arith)) st after ok left h
  step_does Larger sane st after ok left h = join_does true st after h
  step_does Smaller sane st after ok left h = join_does false st after h

-- ---- all steps

-- before step i of n: the h rows of the stack are those of some plans, of which the steps to come make the recipe's plan
pub record Going (l r : ℕ) (recipe s stack : List ℕ) (n h i : ℕ) : Type 0 where
  pub planned : List Plan
  pub underway : Underway recipe (n - i) i planned (plan_of recipe)
  pub counted : length planned ≡ h
  pub rows : rows_in (length s + margin) h stack ≡ rows_of l r s planned

pub going_start : (l r : ℕ) (recipe s stack : List ℕ) → recipe_checked recipe ≡ Ok tt
    → Going l r recipe s stack (length recipe / step_bytes) 0 0
unfolding rows_in
going_start l r recipe s stack fine =
    let z : length recipe / step_bytes - 0 ≡ length recipe / step_bytes = omega arith in
    record { planned = []; underway = rw z (accepted_start recipe fine); counted = refl; rows = refl }

module _ {l r : ℕ} {recipe s stack : List ℕ} {n h i : ℕ} (at : Going l r recipe s stack n h i) where
  module _ (more : i < n) where
    turn : Advanced recipe (n - (i + 1)) i at.planned (plan_of recipe)
    turn = accepted_turn recipe n i at.planned (plan_of recipe) more at.underway

    -- the step is one
    pub going_good : {P : Type 0} (why : Refusal) → step_at recipe i ≡ Err why → P
    going_good why e = let z : ◌≡◌ {A = ℕ} 0 1 = cc turn.decoded in absurd (omega arith)

    module _ (step : Step) (e : step_at recipe i ≡ Ok step) where
      does : Does l r s step at.planned turn.after
      does =
          let q : turn.step ≡ step = cc (turn.decoded, e) in
          subst (λ (x : Step). Does l r s x at.planned turn.after) q
          (step_does l r s turn.step turn.sane at.planned turn.after at.underway.fit turn.rest.fit turn.acted)

      -- it can be performed
      pub going_ready : Ready step h
      going_ready = subst (Ready step) at.counted does.0

      -- and leaves the rows of the plans that it leaves
      pub going_on : (stack' : List ℕ) (h' : ℕ)
          → some (rows_in (length s + margin) h' stack') ≡ performed step l r s (rows_in (length s + margin) h stack)
          → Going l r recipe s stack' n h' (i + 1)
      going_on stack' h' is =
          let left : some (rows_in (length s + margin) h' stack') ≡ some (rows_of l r s turn.after) =
          is ∙ ap (performed step l r s) at.rows ∙ does.1 in
          let rows : rows_in (length s + margin) h' stack' ≡ rows_of l r s turn.after = cc in
          record {
            planned = turn.after;
            underway = turn.rest;
            counted = sym (length-map turn.after _) ∙ ap length (sym rows) ∙ length_rows (length s + margin) h' stack';
            rows = rows;
          }

  -- after the last step the first row is that of the recipe's plan
  pub going_end : n ≤ i → take (length s + margin) stack ≡ row_between l r recipe s
  unfolding rows_in row_between made_between row_of
  going_end done =
      let one_left = accepted_end recipe (n - i) i at.planned (plan_of recipe) (omega arith) at.underway in
      let one : h ≡ 1 = sym at.counted ∙ ap length one_left in
      let none_under : 0 * (length s + margin) ≡ 0 = omega arith in
      let rows : take (length s + margin) stack ∷ [] ≡ row_of (plan_of recipe) l r s ∷ [] =
      rw none_under at (ap (λ (k : ℕ). rows_in (length s + margin) k stack) (sym one) ∙ at.rows ∙ ap (rows_of l r s) one_left) in
      let first : take (length s + margin) stack ≡ row_of (plan_of recipe) l r s = cc in
      first ∙ ap (λ (g : ℤ → ℕ). tab (length s + margin) (λ j. g (sub_ℕ j reach))) (sym (signal_plan counts (between l r s) recipe))
