-- One turn of the loop over a recipe's steps: what the code holds, the last one last, is the machine's stack, the last one first.
-- Assumes nothing.
use Rattle.std.specs.Prelude.{Ok, Err, Option, Some, None, IfOk, IfErr}
use Rattle.refusals.specs.declared.Refusal.TheVariants.{SignalsHeld}
use Rattle.refusals.specs.declared.Refusal.TheVariants as refusal
use Rattle.refusals.specs.Refusals.{Checked, refuse_if}
use Rattle.refusals.specs.declared.Refusal.{Refusal}
use mathlib.Core.Path.{◌≡◌, refl, sym, ap, ◌∙◌}
use mathlib.Core.Bool.{true, false, not}
use mathlib.Core.Logic.{◌⊎◌, inl, inr}
use mathlib.Core.List.{List, [], ◌∷◌, ◌++◌, reverse}
use mathlib.Core.Option.{Option as Maybe, none, some}
use Prim.Native.Nat.{ℕ, suc, ◌+◌, ◌-◌, ◌/◌, ◌≤◌, ◌<◌}
use native.Mathlib.Omega.{arith}
use lib.Dec.{eqb}
use lib.ListN.{length}
use borrow.Author.Tests.{lt-ltb, le-ltb}
use Rattle.std.proofs.lemmas.List.{reverse-append, length-append, length-reverse}
use Rattle.theory.proofs.Tests.{which}
use Rattle.limits.specs.Limits.{step_bytes, most_signals}
use Rattle.recipes.specs.declared.Step.{Step}
use Rattle.recipes.specs.declared.Step.TheVariants.{Signal, Erode, Dilate, Open, Close, Rank, Median, Larger, Smaller}
use Rattle.recipes.specs.Steps.{step_at}
use Rattle.recipes.specs.Machine.{Machine, Reach, added, replaced, joined, act, reaches, both_reach}
use Rattle.recipes.specs.Judge.{in_reach, onward, stepped, judged_from}
use Rattle.recipes.specs.Private.{judged, origin, taken, eroded_reach, dilated_reach, opened_reach, reach_left, within, step_checked}
use Rattle.recipes.proofs.Reaches.{above, reach_table}

-- ---- one step on the reaches held, the last one first

module _ {S : Type 0} (M : Machine S) where
  -- it cannot be done where none is held, unless it is the scan's
  act_none : (s : Step) → 1 ≤ taken s → act M s [] ≡ none
  unfolding act replaced joined
  act_none Signal l = absurd (omega arith)
  act_none (Erode B) l = refl
  act_none (Dilate B) l = refl
  act_none (Open B) l = refl
  act_none (Close B) l = refl
  act_none (Rank k B) l = refl
  act_none (Median B) l = refl
  act_none Larger l = refl
  act_none Smaller l = refl

  -- nor where one is held and it takes two
  act_one : (s : Step) (q : S) → taken s ≡ 2 → act M s (q ∷ []) ≡ none
  unfolding act joined
  act_one Signal q l = absurd (omega arith)
  act_one (Erode B) q l = absurd (omega arith)
  act_one (Dilate B) q l = absurd (omega arith)
  act_one (Open B) q l = absurd (omega arith)
  act_one (Close B) q l = absurd (omega arith)
  act_one (Rank k B) q l = absurd (omega arith)
  act_one (Median B) q l = absurd (omega arith)
  act_one Larger q l = refl
  act_one Smaller q l = refl

-- ---- the code's list of them, the last one last

-- the last one comes first
reversed : {old : List Reach} (mid : List Reach) (last : Reach) → old ≡ mid ++ last ∷ [] → reverse old ≡ last ∷ reverse mid
reversed mid last e = rw e (reverse-append mid (last ∷ []))

-- a step that is refused as too few are held: none, or one where it takes two
pub none_held : (i : ℕ) (s : Step) {old : List Reach} → 1 ≤ taken s → old ≡ [] → step_checked i (act reaches s (reverse old)) ≡ Err (SignalsHeld i)
unfolding step_checked
none_held i s l e = rw (e, act_none reaches s l)

pub one_held : (i : ℕ) (s : Step) (last : Reach) {old mid : List Reach} → taken s ≡ 2 → old ≡ mid ++ last ∷ [] → mid ≡ []
    → step_checked i (act reaches s (reverse old)) ≡ Err (SignalsHeld i)
unfolding step_checked
one_held i s last {mid = mid} l e empty = rw (reversed mid last e, empty, act_one reaches s last l)

-- the step s has taken old to mid, and has left the reach v, if it is in -4 to 4
pub record Left (s : Step) (old mid : List Reach) (left : Option Reach) : Type 0 where
  pub v : Reach
  pub is : left ≡ within v
  pub acted : act reaches s (reverse old) ≡ added v (reverse mid)
  -- only the scan can be one too many
  pub room : in_reach v ≡ false → length mid < most_signals

pub left_scan : {old : List Reach} {s : Step} {v : Reach} → s ≡ Signal → v ≡ origin → Left s old old (Some v)
unfolding act reaches in_reach
left_scan e is = rw (e, is) (record { v = origin; is = refl; acted = refl; room = λ far. absurd (cc) })

-- what it takes stands above the others
left_by : (s : Step) (q r : Reach) {old mid : List Reach} {left : Option Reach} → reverse old ≡ above (taken s) q r (reverse mid)
    → length mid < most_signals → left ≡ within (reach_left s q r) → Left s old mid left
unfolding added
left_by s q r {old} {mid} held few is =
    let short : length (reverse mid) < most_signals = rw (length-reverse mid) few in
    record {
      v = reach_left s q r;
      is = is;
      acted = rw (held, lt-ltb _ _ short) (reach_table s q r (reverse mid) short);
      room = λ far. few;
    }

pub left_one : (s : Step) (last : Reach) {old mid : List Reach} {left : Option Reach} → taken s ≡ 1 → old ≡ mid ++ last ∷ []
    → length old ≤ most_signals → left ≡ within (reach_left s last origin) → Left s old mid left
left_one s last {old} {mid} one e l is =
    left_by s last origin (rw one (reversed mid last e)) (omega (arith, l, ap length e, length-append mid (last ∷ []))) is

pub left_two : (s : Step) (first last : Reach) {old under mid : List Reach} {left : Option Reach} → taken s ≡ 2 → old ≡ under ++ last ∷ []
    → under ≡ mid ++ first ∷ [] → length old ≤ most_signals → left ≡ within (reach_left s first last) → Left s old mid left
left_two s first last {old} {under} {mid} two e e' l is =
    left_by s first last (rw two (reversed under last e ∙ ap {B = List Reach} (λ st. last ∷ st) (reversed mid first e')))
    (omega (arith, l, ap length e, length-append under (last ∷ []), ap length e', length-append mid (first ∷ []))) is

within_some : (u : Reach) {v : Reach} → within u ≡ Some v → (u ≡ v) × (in_reach u ≡ true)
within_some u {v} e = go (which (in_reach u))
  where
    go : (in_reach u ≡ true) ⊎ (in_reach u ≡ false) → (u ≡ v) × (in_reach u ≡ true)
    go (inl t) = let same : Some u ≡ Some v = rw t at e in ((cc), t)
    go (inr f) = let never : None ≡ Some v = rw f at e in absurd (cc)

-- ---- the arms of the code's match

module _ {s : Step} {B : ℕ} where
  pub eroding : (s ≡ Erode B) ⊎ (((k : ℕ) × (s ≡ Rank k B)) ⊎ (s ≡ Median B)) → (taken s ≡ 1) × ((q r : Reach) → reach_left s q r ≡ eroded_reach B q)
  eroding (inl e) = rw e (refl, λ q r. refl)
  eroding (inr (inl (k, e))) = rw e (refl, λ q r. refl)
  eroding (inr (inr e)) = rw e (refl, λ q r. refl)

  pub opening : (s ≡ Open B) ⊎ (s ≡ Close B) → (taken s ≡ 1) × ((q r : Reach) → reach_left s q r ≡ opened_reach B q)
  opening (inl e) = rw e (refl, λ q r. refl)
  opening (inr e) = rw e (refl, λ q r. refl)

  pub dilating : s ≡ Dilate B → (taken s ≡ 1) × ((q r : Reach) → reach_left s q r ≡ dilated_reach B q)
  dilating e = rw e (refl, λ q r. refl)

pub joining : {s : Step} → (s ≡ Larger) ⊎ (s ≡ Smaller) → (taken s ≡ 2) × ((q r : Reach) → reach_left s q r ≡ both_reach q r)
joining (inl e) = rw e (refl, λ q r. refl)
joining (inr e) = rw e (refl, λ q r. refl)

-- ---- what becomes of it

module _ {s : Step} {old mid : List Reach} {left : Option Reach} (h : Left s old mid left) (i : ℕ) where
  -- none in reach: refused under 5
  pub left_far : left ≡ None → step_checked i (act reaches s (reverse old)) ≡ Err (refusal.Reach i)
  unfolding step_checked added
  left_far e = go (which (in_reach h.v))
    where
      go : (in_reach h.v ≡ true) ⊎ (in_reach h.v ≡ false) → step_checked i (act reaches s (reverse old)) ≡ Err (refusal.Reach i)
      go (inl t) = let some_left : left ≡ Some h.v = rw t at h.is in absurd (cc)
      go (inr f) = let short : length (reverse mid) < most_signals = rw (length-reverse mid) (h.room f) in rw (h.acted, lt-ltb _ _ short, f)

  -- a ninth: refused under 4
  left_ninth : length mid ≡ most_signals → step_checked i (act reaches s (reverse old)) ≡ Err (SignalsHeld i)
  unfolding step_checked added
  left_ninth full = let long : most_signals ≤ length (reverse mid) = rw (length-reverse mid) (omega arith) in rw (h.acted, le-ltb _ _ long)

  -- and else held
  left_held : (v : Reach) {new : List Reach} → left ≡ Some v → length mid < most_signals → new ≡ mid ++ v ∷ []
      → (step_checked i (act reaches s (reverse old)) ≡ Ok tt) × (some (reverse new) ≡ act reaches s (reverse old))
  unfolding step_checked added
  left_held v {new} e few is =
      let w = within_some h.v (sym h.is ∙ e) in
      let short : length (reverse mid) < most_signals = rw (length-reverse mid) few in
      let acts : act reaches s (reverse old) ≡ some (v ∷ reverse mid) = h.acted ∙ rw (lt-ltb _ _ short, w.0) in
      let near : in_reach v ≡ true = rw w.0 at w.1 in
      (rw (acts, near), rw (is, reverse-append mid (v ∷ [])) (sym acts))

  -- what holding it answers, and what is then held
  pub left_after : (v : Reach) (new : List Reach) → left ≡ Some v → (r : Checked)
      → IfOk r (λ (u : Unit {0}). (new ≡ mid ++ v ∷ []) × (length mid < most_signals))
      → IfErr r (λ why. (why ≡ SignalsHeld i) × (length mid ≡ most_signals))
      → (r ≡ step_checked i (act reaches s (reverse old)))
      × IfOk r (λ (u : Unit {0}). some (reverse new) ≡ act reaches s (reverse old))
  left_after v new e (Ok u) held full = let k = left_held v e held.1 held.0 in (sym k.0, k.1)
  left_after v new e (Err why) held full = let told : ◌≡◌ {A = Checked} (Err why) (Err (SignalsHeld i)) = rw full.0 in (told ∙ sym (left_ninth full.1), tt)

-- ---- the loop

-- before step i, with these reaches held: the steps left say of them what all the steps say
pub record AtStep (r : List ℕ) (i : ℕ) (held : List Reach) : Type 0 where
  pub same : judged_from r (length r / step_bytes - i) i (reverse held) ≡ judged r

pub at_start : (r : List ℕ) → AtStep r 0 []
unfolding judged
at_start r = let e : length r / step_bytes - 0 ≡ length r / step_bytes = omega arith in record { same = rw e }

module _ {r : List ℕ} {i : ℕ} {held : List Reach} (h : AtStep r i held) where
  -- what comes after step i
  abbrev rest : List Reach → Checked
  rest = judged_from r (length r / step_bytes - (i + 1)) (i + 1)

  step_is : i < length r / step_bytes → judged r ≡ stepped i (step_at r i) (reverse held) rest
  unfolding judged_from
  step_is more = let e : length r / step_bytes - i ≡ suc (length r / step_bytes - (i + 1)) = omega arith in sym h.same ∙ rw e

  -- the step is none
  pub turn_bad : i < length r / step_bytes → (why : Refusal) → step_at r i ≡ Err why → judged r ≡ Err why
  unfolding stepped
  turn_bad more why d = step_is more ∙ rw d

  -- the step is refused
  pub turn_refused : i < length r / step_bytes → (s : Step) → step_at r i ≡ Ok s → (why : Refusal)
      → step_checked i (act reaches s (reverse held)) ≡ Err why → judged r ≡ Err why
  unfolding stepped onward step_checked
  turn_refused more s d why e = step_is more ∙ rw d (go (act reaches s (reverse held)) e)
    where
      go : (o : Maybe (List Reach)) → step_checked i o ≡ Err why → onward i o rest ≡ Err why
      go none e = e
      go (some st) e = rw e

  -- the step is done
  pub turn_on : i < length r / step_bytes → (s : Step) → step_at r i ≡ Ok s → {new : List Reach}
      → step_checked i (act reaches s (reverse held)) ≡ Ok tt → some (reverse new) ≡ act reaches s (reverse held)
      → AtStep r (i + 1) new
  unfolding stepped onward step_checked
  turn_on more s d e is = record { same = sym (step_is more ∙ rw (d, ← is, rw (← is) at e)) }

  -- there is no more step
  pub turn_end : i ≡ length r / step_bytes → judged r ≡ refuse_if (not (eqb (length held) 1)) (SignalsHeld (length r / step_bytes))
  unfolding judged_from
  turn_end q = let e : length r / step_bytes - i ≡ 0 = omega arith in sym h.same ∙ rw (e, length-reverse held, q)
