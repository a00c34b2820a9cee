-- What an accepted recipe goes through: each step is decoded, acts on the plans held and stays in reach, and one plan is left, which
-- fits the window.
-- Assumes nothing.
use Rattle.std.specs.Prelude.{Result, Ok, Err}
use Rattle.refusals.specs.Refusals.{Checked}
use mathlib.Core.Path.{◌≡◌, refl, ap, subst}
use mathlib.Core.Bool.{Bool, true, false, cond}
use mathlib.Core.List.{List, [], ◌∷◌, map}
use mathlib.Core.Logic.{◌⊎◌, inl, inr}
use mathlib.Core.Option.{Option, none, some, bind}
use Prim.Native.Nat.{ℕ, zero, suc, ◌+◌, ◌-◌, ◌/◌, ◌≤◌, ◌<◌}
use native.Mathlib.Omega.{arith}
use lib.Dec.{ltb, eqb}
use lib.ListN.{length, get_or}
use lib.IntN.{neg_ℤ, pos}
use lib.Signed.{le_z}
use borrow.Author.Tests.{ltb-true, ne_eqb}
use Rattle.limits.specs.Limits.{reach, step_bytes, most_signals}
use Rattle.theory.specs.Signals.{window}
use Rattle.theory.proofs.Plans.{Plan, hi}
use Rattle.theory.proofs.Tests.{which, and_left, and_right}
use Rattle.theory.proofs.Truth.{Fits}
use Rattle.refusals.specs.declared.Refusal.{Refusal}
use Rattle.recipes.specs.declared.Step.{Step}
use Rattle.recipes.specs.declared.Step.TheVariants.{Signal, Erode, Dilate, Open, Close, Rank, Median, Larger, Smaller}
use Rattle.recipes.specs.Steps.{step_at}
use Rattle.recipes.specs.Machine.{Reach, added, replaced, joined, act, reaches}
use Rattle.recipes.specs.Judge.{in_reach, onward, stepped, judged_from, bad_length, recipe_checked}
use Rattle.recipes.specs.Private.{judged}
use Rattle.recipes.specs.Meaning.{done, run, made}
use Rattle.recipes.proofs.Decodes.{Sane, step_sane}
use Rattle.recipes.proofs.Plans.{plans, fold, folds, plan_of, act-fold}
use Rattle.recipes.proofs.Reaches.{is_near, in_near, fold-reaches}

-- what is refused is not fine
never : {X : Type 0} {why : Refusal} → ◌≡◌ {A = Checked} (Err why) (Ok tt) → X
never h = absurd (cc)

-- the reaches of the plans held
abbrev pub reaches_of : List Plan → List Reach
reaches_of st = map (fold reaches) st

-- the last signal held is in reach
abbrev last_in : List Reach → Bool
last_in st = in_reach (get_or st 0 reaches.the_scan)

-- ---- one step that is accepted

-- step i of the recipe r, with the plans st held
record FineStep (r : List ℕ) (m i : ℕ) (st : List Plan) : Type 0 where
  -- the step, and the plans held after it
  pub step : Step
  pub after : List Plan
  pub decoded : step_at r i ≡ Ok step
  pub acted : act plans step st ≡ some after
  pub last : last_in (reaches_of after) ≡ true
  pub fine : judged_from r m (i + 1) (reaches_of after) ≡ Ok tt

fine_step : (r : List ℕ) (m i : ℕ) (st : List Plan) → judged_from r (suc m) i (reaches_of st) ≡ Ok tt → FineStep r m i st
unfolding judged_from stepped onward folds
fine_step r m i st = decode (step_at r i) refl
  where
    next : List Reach → Checked
    next = judged_from r m (i + 1)

    test : (s : Step) (after : List Plan) → step_at r i ≡ Ok s → act plans s st ≡ some after
        → (last_in (reaches_of after) ≡ true) ⊎ (last_in (reaches_of after) ≡ false) → onward i (some (reaches_of after)) next ≡ Ok tt
        → FineStep r m i st
    test s after d a (inl t) h = record { step = s; after = after; decoded = d; acted = a; last = t; fine = rw t at h }
    test s after d a (inr t) h = never (rw t at h)

    turn : (s : Step) → step_at r i ≡ Ok s → (o : Option (List Plan)) → act plans s st ≡ o → onward i (folds reaches o) next ≡ Ok tt
        → FineStep r m i st
    turn s d none a h = never h
    turn s d (some after) a h = test s after d a (which (last_in (reaches_of after))) h

    decode : (d : Result Step Refusal) → step_at r i ≡ d → stepped i d (reaches_of st) next ≡ Ok tt → FineStep r m i st
    decode (Err why) d h = never h
    decode (Ok s) d h = turn s d (act plans s st) refl (rw (act-fold reaches s st) at h)

-- ---- what is accepted leaves one plan

one_left : (r : List ℕ) (i : ℕ) (st : List Plan) → judged_from r 0 i (reaches_of st) ≡ Ok tt → (e : Plan) × (st ≡ e ∷ [])
unfolding judged_from
one_left r i [] h = never h
one_left r i (e ∷ []) h = (e, refl)
one_left r i (e ∷ d ∷ st) h =
    let two : eqb (length (reaches_of (e ∷ d ∷ st))) 1 ≡ false = ne_eqb (length (reaches_of (e ∷ d ∷ st))) 1 (λ q. omega arith) in
    never (rw two at h)

fine_leaves : (r : List ℕ) (m i : ℕ) (st : List Plan) → judged_from r m i (reaches_of st) ≡ Ok tt
    → (e : Plan) × (run plans r m i st ≡ some (e ∷ []))
unfolding run done judged_from bind
fine_leaves r zero i st h = let e = one_left r i st h in (e.0, ap some e.1)
fine_leaves r (suc m) i st h =
    let a = fine_step r m i st h in
    let e = fine_leaves r m (i + 1) a.after a.fine in
    (e.0, rw (a.decoded, a.acted) e.1)

-- ---- what is accepted fits the window

-- every plan held fits the window
abbrev pub AllFit : List Plan → Type 0
AllFit [] = Unit {0}
AllFit (e ∷ st) = Fits window e × AllFit st

reach_fits : (e : Plan) → in_reach (fold reaches e) ≡ true → Fits window e
unfolding is_near window
reach_fits e h =
    let t = rw (fold-reaches e) at (in_near (fold reaches e) h) in
    record { left_ok = and_left _ _ t.0; right_ok = and_right (le_z (neg_ℤ (pos reach)) (hi e)) _ t.1 }

-- a step leaves the plans below the last as they were, and no more than eight
abbrev Kept : Option (List Plan) → Type 0
Kept none = Unit {0}
Kept (some []) = Unit {0}
Kept (some (e ∷ st)) = AllFit st × (length st < most_signals)

replaced-kept : (f : Plan → Plan) (st : List Plan) → AllFit st → length st ≤ most_signals → Kept (replaced f st)
unfolding replaced
replaced-kept f [] ok l = tt
replaced-kept f (e ∷ st) ok l = (ok.1, l)

joined-kept : (f : Plan → Plan → Plan) (st : List Plan) → AllFit st → length st ≤ most_signals → Kept (joined f st)
unfolding joined
joined-kept f [] ok l = tt
joined-kept f (e ∷ []) ok l = tt
joined-kept f (e ∷ d ∷ st) ok l = (ok.1.1, omega arith)

act-kept : (s : Step) (st : List Plan) → AllFit st → length st ≤ most_signals → Kept (act plans s st)
unfolding act added
act-kept Signal st ok l = go (which (ltb (length st) most_signals))
  where
    go : (ltb (length st) most_signals ≡ true) ⊎ (ltb (length st) most_signals ≡ false)
        → Kept (cond (ltb (length st) most_signals) (some (plans.the_scan ∷ st)) none)
    go (inl e) = rw e (ok, ltb-true (length st) most_signals e)
    go (inr e) = rw e tt
act-kept (Erode B) st ok l = replaced-kept _ st ok l
act-kept (Dilate B) st ok l = replaced-kept _ st ok l
act-kept (Open B) st ok l = replaced-kept _ st ok l
act-kept (Close B) st ok l = replaced-kept _ st ok l
act-kept (Rank k B) st ok l = replaced-kept _ st ok l
act-kept (Median B) st ok l = replaced-kept _ st ok l
act-kept Larger st ok l = joined-kept _ st ok l
act-kept Smaller st ok l = joined-kept _ st ok l

-- ---- the recipe underway

-- before step i, with m steps to come and the plans st held, the last one first: the steps to come are accepted and leave the plan e
pub record Underway (r : List ℕ) (m i : ℕ) (st : List Plan) (e : Plan) : Type 0 where
  pub fit : AllFit st
  pub few : length st ≤ most_signals
  pub fine : judged_from r m i (reaches_of st) ≡ Ok tt
  pub leaves : run plans r m i st ≡ some (e ∷ [])

-- a recipe that is accepted leaves its plan
pub accepted_start : (r : List ℕ) → recipe_checked r ≡ Ok tt → Underway r (length r / step_bytes) 0 [] (plan_of r)
unfolding recipe_checked judged plan_of made
accepted_start r h = go (which (bad_length (length r))) h
  where
    begin : judged r ≡ Ok tt → Underway r (length r / step_bytes) 0 [] (plan_of r)
    begin fine =
        let e = fine_leaves r (length r / step_bytes) 0 [] fine in
        record { fit = tt; few = omega arith; fine = fine; leaves = rw e.1 }

    go : (bad_length (length r) ≡ true) ⊎ (bad_length (length r) ≡ false) → recipe_checked r ≡ Ok tt
        → Underway r (length r / step_bytes) 0 [] (plan_of r)
    go (inl b) h = never (rw b at h)
    go (inr b) h = begin (rw b at h)

-- step i of the recipe, with m more to come
pub record Advanced (r : List ℕ) (m i : ℕ) (st : List Plan) (e : Plan) : Type 0 where
  -- the step, and the plans held after it
  pub step : Step
  pub after : List Plan
  pub decoded : step_at r i ≡ Ok step
  pub sane : Sane step
  pub acted : act plans step st ≡ some after
  pub rest : Underway r m (i + 1) after e

accepted_step : (r : List ℕ) (m i : ℕ) (st : List Plan) (e : Plan) → Underway r (suc m) i st e → Advanced r m i st e
unfolding run done bind
accepted_step r m i st e u =
    let a = fine_step r m i st u.fine in
    let k = fits a.after (subst Kept a.acted (act-kept a.step st u.fit u.few)) a.last in
    record {
      step = a.step;
      after = a.after;
      decoded = a.decoded;
      sane = step_sane r i a.step a.decoded;
      acted = a.acted;
      rest = record { fit = k.0; few = k.1; fine = a.fine; leaves = rw (a.decoded, a.acted) at u.leaves };
    }
  where
    fits : (after : List Plan) → Kept (some after) → last_in (reaches_of after) ≡ true
        → AllFit after × (length after ≤ most_signals)
    fits [] k t = (tt, omega arith)
    fits (d ∷ below) k t = ((reach_fits d t, k.0), k.1)

-- as a loop over n steps has it
pub accepted_turn : (r : List ℕ) (n i : ℕ) (st : List Plan) (e : Plan) → i < n → Underway r (n - i) i st e
    → Advanced r (n - (i + 1)) i st e
accepted_turn r n i st e l u =
    let q : n - i ≡ suc (n - (i + 1)) = omega arith in
    accepted_step r (n - (i + 1)) i st e (rw q at u)

-- after the last step e alone is held
pub accepted_end : (r : List ℕ) (m i : ℕ) (st : List Plan) (e : Plan) → m ≤ 0 → Underway r m i st e → st ≡ e ∷ []
unfolding run
accepted_end r zero i st e l u = cc u.leaves
accepted_end r (suc m) i st e l u = absurd (omega arith)

underway_fits : (r : List ℕ) (m i : ℕ) (st : List Plan) (e : Plan) → Underway r m i st e → Fits window e
underway_fits r zero i st e u = (subst AllFit (accepted_end r 0 i st e (omega arith) u) u.fit).0
underway_fits r (suc m) i st e u = let a = accepted_step r m i st e u in underway_fits r m (i + 1) a.after e a.rest

-- the plan of an accepted recipe fits the window
pub plan_fits : (r : List ℕ) → recipe_checked r ≡ Ok tt → Fits window (plan_of r)
plan_fits r h = underway_fits r (length r / step_bytes) 0 [] (plan_of r) (accepted_start r h)
