-- A recipe's plan: the steps on the machine whose signals are plans. What they leave on any machine is what that makes of the plan.
-- Assumes nothing.
use Rattle.std.specs.Prelude.{Result, Ok, Err}
use Rattle.refusals.specs.declared.Refusal.{Refusal}
use mathlib.Core.Path.{◌≡◌, refl, ap, ap₂, ◌∙◌}
use mathlib.Core.Bool.{Bool, true, false, cond}
use mathlib.Core.List.{List, [], ◌∷◌, map}
use mathlib.Core.Option
use mathlib.Core.Option.{Option, none, some, bind}
use Prim.Native.Nat.{ℕ, zero, suc, ◌+◌, ◌/◌}
use lib.Dec.{ltb}
use lib.IntN.{ℤ, pos, ◌+ℤ◌}
use lib.ListN.{length, get_or, length-map}
use Rattle.limits.specs.Limits.{step_bytes, most_signals}
use Rattle.theory.specs.Orders.{Order, larger, smaller, counts, bools}
use Rattle.theory.specs.Ranks.{pick}
use Rattle.theory.specs.Signals.{Ends, endless, window, spread}
use Rattle.theory.proofs.Plans.{Plan, scan, near, larger_plan, smaller_plan, meaning, truth}
use Rattle.recipes.specs.declared.Step.{Step}
use Rattle.recipes.specs.declared.Step.TheVariants.{Signal, Erode, Dilate, Open, Close, Rank, Median, Larger, Smaller}
use Rattle.recipes.specs.Steps.{step_at}
use Rattle.recipes.specs.Machine.{Machine, added, replaced, joined, eroded, dilated, ranked_by, act, signals}
use Rattle.recipes.specs.Meaning.{done, run, made, value_at, truth_of}

-- the machine whose signals are plans
unfoldable pub plans : Machine Plan
plans = record { the_scan = scan; around = near; the_larger = larger_plan; the_smaller = smaller_plan }

-- what a machine makes of a plan
unfoldable pub fold : {S : Type 0} → Machine S → Plan → S
fold M scan = M.the_scan
fold M (near p bs e) = M.around p bs (fold M e)
fold M (larger_plan a b) = M.the_larger (fold M a) (fold M b)
fold M (smaller_plan a b) = M.the_smaller (fold M a) (fold M b)

-- the plan that a recipe's steps leave
unfoldable pub plan_of : List ℕ → Plan
plan_of r = made plans r

-- the last signal held; d where none is
abbrev pub the_last : {S : Type 0} → S → Option (List S) → S
the_last d o = get_or (Option.get_or o []) 0 d

-- ---- a machine that does the steps holds what it makes of the plans

-- what it makes of the plans of a stack
unfoldable pub folds : {S : Type 0} → Machine S → Option (List Plan) → Option (List S)
folds M none = none
folds M (some st) = some (map (fold M) st)

module _ {S : Type 0} (M : Machine S) where
  added-fold : (st : List Plan) → added M.the_scan (map (fold M) st) ≡ folds M (added scan st)
  unfolding added folds fold
  added-fold st = rw (length-map st (fold M)) (go (ltb (length st) most_signals))
    where
      go : (b : Bool)
          → cond {A = Option (List S)} b (some (M.the_scan ∷ map (fold M) st)) none ≡ folds M (cond b (some (scan ∷ st)) none)
      go true = refl
      go false = refl

  replaced-fold : (f : S → S) (g : Plan → Plan) → ((e : Plan) → f (fold M e) ≡ fold M (g e)) → (st : List Plan)
      → replaced f (map (fold M) st) ≡ folds M (replaced g st)
  unfolding replaced folds
  replaced-fold f g h [] = refl
  replaced-fold f g h (e ∷ st) = ap {B = Option (List S)} (λ s. some (s ∷ map (fold M) st)) (h e)

  joined-fold : (f : S → S → S) (g : Plan → Plan → Plan) → ((d e : Plan) → f (fold M d) (fold M e) ≡ fold M (g d e))
      → (st : List Plan) → joined f (map (fold M) st) ≡ folds M (joined g st)
  unfolding joined folds
  joined-fold f g h [] = refl
  joined-fold f g h (e ∷ []) = refl
  joined-fold f g h (e ∷ d ∷ st) = ap {B = Option (List S)} (λ s. some (s ∷ map (fold M) st)) (h d e)

  pub act-fold : (s : Step) (st : List Plan) → act M s (map (fold M) st) ≡ folds M (act plans s st)
  unfolding act plans fold eroded dilated ranked_by
  act-fold Signal st = added-fold st
  act-fold (Erode B) st = replaced-fold _ (eroded plans B) (λ e. refl) st
  act-fold (Dilate B) st = replaced-fold _ (dilated plans B) (λ e. refl) st
  act-fold (Open B) st = replaced-fold _ (λ e. dilated plans B (eroded plans B e)) (λ e. refl) st
  act-fold (Close B) st = replaced-fold _ (λ e. eroded plans B (dilated plans B e)) (λ e. refl) st
  act-fold (Rank k B) st = replaced-fold _ (ranked_by plans k B) (λ e. refl) st
  act-fold (Median B) st = replaced-fold _ (ranked_by plans _ B) (λ e. refl) st
  act-fold Larger st = joined-fold _ larger_plan (λ d e. refl) st
  act-fold Smaller st = joined-fold _ smaller_plan (λ d e. refl) st

  done-fold : (d : Result Step Refusal) (st : List Plan) → done M d (map (fold M) st) ≡ folds M (done plans d st)
  unfolding done folds
  done-fold (Ok s) st = act-fold s st
  done-fold (Err why) st = refl

  bind_fold : (o : Option (List Plan)) (f : List S → Option (List S)) (g : List Plan → Option (List Plan))
      → ((st : List Plan) → f (map (fold M) st) ≡ folds M (g st)) → bind (folds M o) f ≡ folds M (bind o g)
  unfolding bind folds
  bind_fold none f g h = refl
  bind_fold (some st) f g h = h st

  pub run_fold : (r : List ℕ) (m i : ℕ) (st : List Plan) → run M r m i (map (fold M) st) ≡ folds M (run plans r m i st)
  unfolding run folds
  run_fold r zero i st = refl
  run_fold r (suc m) i st =
      ap (λ (o : Option (List S)). bind o (run M r m (i + 1))) (done-fold (step_at r i) st)
      ∙ bind_fold (done plans (step_at r i) st) (run M r m (i + 1)) (run plans r m (i + 1)) (run_fold r m (i + 1))

  last_fold : (o : Option (List Plan)) → the_last M.the_scan (folds M o) ≡ fold M (the_last scan o)
  unfolding folds fold
  last_fold none = refl
  last_fold (some []) = refl
  last_fold (some (e ∷ st)) = refl

  -- what a recipe leaves on any machine is what the machine makes of the recipe's plan
  pub made_plan : (r : List ℕ) → made M r ≡ fold M (plan_of r)
  unfolding made plan_of plans
  made_plan r = ap (the_last M.the_scan) (run_fold r (length r / step_bytes) 0 []) ∙ last_fold (run plans r (length r / step_bytes) 0 [])

-- ---- endless signals

fold-signals : {A : Type 0} (O : Order A) (g : ℤ → A) (e : Plan) → fold (signals O g) e ≡ meaning O e g
unfolding fold signals meaning
fold-signals O g scan = refl
fold-signals {A} O g (near p bs e) = ap {B = ℤ → A} (λ s x. pick O p (s x) (λ b. s (x +ℤ b)) bs) (fold-signals O g e)
fold-signals {A} O g (larger_plan a b) = ap₂ {C = ℤ → A} (λ s t x. larger O (s x) (t x)) (fold-signals O g a) (fold-signals O g b)
fold-signals {A} O g (smaller_plan a b) = ap₂ {C = ℤ → A} (λ s t x. smaller O (s x) (t x)) (fold-signals O g a) (fold-signals O g b)

-- what a recipe's steps leave on endless signals is the meaning of its plan
pub signal_plan : {A : Type 0} (O : Order A) (g : ℤ → A) (r : List ℕ) → made (signals O g) r ≡ meaning O (plan_of r) g
signal_plan O g r = made_plan (signals O g) r ∙ fold-signals O g (plan_of r)

pub value_plan : (ends : Ends) (r s : List ℕ) (x : ℕ) → value_at ends r s x ≡ meaning counts (plan_of r) (endless 0 ends s) (pos x)
unfolding value_at
value_plan ends r s x = ap (λ (g : ℤ → ℕ). g (pos x)) (signal_plan counts (endless 0 ends s) r)

pub truth_plan : (r : List ℕ) (v : ℕ) → truth_of r v ≡ truth window (plan_of r) v
unfolding truth_of truth
truth_plan r v = ap (λ (g : ℤ → Bool). g (pos 0)) (signal_plan bools (spread window v) r)
